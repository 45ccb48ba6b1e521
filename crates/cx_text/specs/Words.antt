-- What words are, and how a line's words fit a row of the table.
use Rattle.std.specs.Prelude.{ℕ, ◌+◌, ◌-◌, ◌*◌, ℤ, pos, neg_ℤ, Bool, true, false, ◌==◌, ◌&&◌, ◌||◌, not, List, [], ◌∷◌, map, filter, length, replicate, min, max, Option, Some, None, nat_lt, nat_le, if◌then◌else◌, codes, option_map}
use Rattle.std.specs.List.{list_all, list_any}
use Rattle.std.specs.Str.{bytes_eq}
use Rattle.std.specs.Fmt.{signed_decimal}
use Rattle.cx_text.specs.declared.form.Form.{Form}
use Rattle.cx_text.specs.declared.form.Field.{Field}
use Rattle.cx_text.specs.declared.form.Field.TheVariants as fields
use Rattle.cx_text.specs.declared.form.TheConstants.{FORMS}
use Rattle.cx_text.specs.Table.{head_of, fields_of, takes_main, spelling}

-- ---- words

abbrev pub is_one_of : List (List ℕ) → List ℕ → Bool
is_one_of ws w = list_any (λ x. bytes_eq x w) ws

abbrev pub is_lower : ℕ → Bool
is_lower b = nat_le 97 b && nat_le b 122

abbrev pub is_digit : ℕ → Bool
is_digit b = nat_le 48 b && nat_le b 57

abbrev pub is_name_byte : ℕ → Bool
is_name_byte b = is_lower b || is_digit b || (b == 95)

abbrev pub begins_lower : List ℕ → Bool
begins_lower [] = false
begins_lower (b ∷ bs) = is_lower b

-- the words of replies, from `ok` to `invalid_argument`
abbrev pub reply_words : List (List ℕ)
reply_words = codes "ok" ∷ codes "true" ∷ codes "false" ∷ codes "over" ∷ codes "over-expected" ∷ codes "max-levels" ∷ codes "overflow" ∷ codes "made" ∷ codes "already"
    ∷ codes "queued" ∷ codes "ran" ∷ codes "never" ∷ codes "removed" ∷ codes "inside" ∷ codes "not-held" ∷ codes "returned" ∷ codes "passive" ∷ codes "no-token"
    ∷ codes "spent" ∷ codes "no-thread" ∷ codes "launched" ∷ codes "deferred" ∷ codes "none" ∷ codes "no_state" ∷ codes "promise_already_satisfied"
    ∷ codes "future_already_retrieved" ∷ codes "broken_promise" ∷ codes "operation_not_permitted" ∷ codes "resource_deadlock_would_occur" ∷ codes "invalid_argument" ∷ []

abbrev pub main_word : List ℕ
main_word = codes "main"

abbrev pub is_reserved : ℕ → List ℕ → Bool
is_reserved version w = bytes_eq main_word w || is_one_of reply_words w

unfoldable pub is_name : ℕ → List ℕ → Bool
is_name version w = begins_lower w && nat_le (length w) 16 && list_all is_name_byte w && not (is_reserved version w)

-- 1 to 20 digits
unfoldable pub is_digits : List ℕ → Bool
is_digits w = nat_lt 0 (length w) && nat_le (length w) 20 && list_all is_digit w

abbrev pub digits_from : ℕ → List ℕ → ℕ
digits_from n [] = n
digits_from n (c ∷ cs) = digits_from (n * 10 + (c - 48)) cs

abbrev pub natural_of : List ℕ → Option ℤ
natural_of w = if is_digits w then Some (pos (digits_from 0 w)) else None

-- an optional minus sign and digits
abbrev pub integer_of : List ℕ → Option ℤ
integer_of [] = None
integer_of (c ∷ cs) = if c == 45 then option_map neg_ℤ (natural_of cs) else natural_of (c ∷ cs)

abbrev pub policy_words : List (List ℕ)
policy_words = codes "async" ∷ codes "deferred" ∷ codes "both" ∷ []

abbrev pub relation_words : List (List ℕ)
relation_words = codes "<" ∷ codes "<=" ∷ codes "=" ∷ codes "!=" ∷ codes ">=" ∷ codes ">" ∷ []

-- ---- fields

-- what a word of a line holds
pub data Value : Type 0 where
  AWord : List ℕ → Value
  ANumber : ℤ → Value

-- the word that a value is written as
abbrev pub spell : Value → List ℕ
spell (AWord w) = w
spell (ANumber n) = signed_decimal n

abbrev pub word_where : Bool → List ℕ → Option Value
word_where true w = Some (AWord w)
word_where false w = None

-- the value of a word at a field, in a line whose second word is `own`
unfoldable pub value_of : ℕ → List ℕ → Field → List ℕ → Option Value
value_of version own fields.New w = word_where (is_name version w) w
value_of version own fields.Own w = word_where (is_name version w && bytes_eq own w) w
value_of version own (fields.Name sort) w = word_where (is_name version w || (takes_main sort && bytes_eq main_word w)) w
value_of version own (fields.Each sort) w = word_where (is_name version w || (takes_main sort && bytes_eq main_word w)) w
value_of version own (fields.Several sort least most) w = None
value_of version own (fields.Word literal) w = word_where (bytes_eq (spelling literal) w) w
value_of version own fields.Policy w = word_where (is_one_of policy_words w) w
value_of version own fields.Relation w = word_where (is_one_of relation_words w) w
value_of version own (fields.Number low high) w = option_map ANumber (natural_of w)
value_of version own fields.Signed w = option_map ANumber (integer_of w)
value_of version own fields.Index w = option_map ANumber (natural_of w)
value_of version own fields.UpToNext w = option_map ANumber (natural_of w)

-- ---- rows

-- a row's fields for so many words: `Several` is as many as are left, within its bounds
abbrev pub spread : List Field → ℕ → List Field
spread [] n = []
spread (fields.Several sort least most ∷ fs) n = replicate (max least (min n most)) (fields.Each sort)
spread (f ∷ fs) n = f ∷ spread fs (n - 1)

abbrev pub with_value : Option Value → Option (List Value) → Option (List Value)
with_value (Some v) (Some vs) = Some (v ∷ vs)
with_value _ _ = None

unfoldable pub values_of : ℕ → List ℕ → List Field → List (List ℕ) → Option (List Value)
values_of version own [] [] = Some []
values_of version own [] (w ∷ ws) = None
values_of version own (f ∷ fs) [] = None
values_of version own (f ∷ fs) (w ∷ ws) = with_value (value_of version own f w) (values_of version own fs ws)

-- a table of forms: a scenario's, or a record's
pub record Table (F : Type 0) : Type 0 where
  pub forms : List F
  pub head : F → List ℕ
  pub fields : F → List Field
  pub since : F → ℕ

-- a line that has one of the forms
pub record Said (F : Type 0) : Type 0 where
  pub form : F
  pub values : List Value

abbrev pub own_word : List (List ℕ) → List ℕ
own_word [] = []
own_word (w ∷ ws) = w

abbrev pub said_as : {F : Type 0} → Table F → ℕ → List (List ℕ) → F → Option (Said F)
said_as table version ws form = option_map (λ vs. record { form = form; values = vs }) (values_of version (own_word ws) (spread (table.fields form) (length ws)) ws)

abbrev pub or_some : {A : Type 0} → Option A → Option A → Option A
or_some (Some x) rest = Some x
or_some None rest = rest

abbrev pub first_some : {A B : Type 0} → (A → Option B) → List A → Option B
first_some f [] = None
first_some f (x ∷ xs) = or_some (f x) (first_some f xs)

abbrev pub has_head : {F : Type 0} → Table F → ℕ → List ℕ → F → Bool
has_head table version w f = bytes_eq (table.head f) w && nat_le (table.since f) version

-- whether the words that stand for themselves are there, and so many words as there are fields
abbrev pub has_literals : List Field → List (List ℕ) → Bool
has_literals [] [] = true
has_literals [] (w ∷ ws) = false
has_literals (f ∷ fs) [] = false
has_literals (fields.Word literal ∷ fs) (w ∷ ws) = bytes_eq (spelling literal) w && has_literals fs ws
has_literals (f ∷ fs) (w ∷ ws) = has_literals fs ws

-- the rows that may be meant
unfoldable pub rows_for : {F : Type 0} → Table F → ℕ → List ℕ → List (List ℕ) → List F
rows_for table version w ws = filter (λ f. has_literals (spread (table.fields f) (length ws)) ws) (filter (has_head table version w) table.forms)

-- the line that words say, in a text of this version
unfoldable pub line_by : {F : Type 0} → Table F → ℕ → List (List ℕ) → Option (Said F)
line_by table version [] = None
line_by table version (w ∷ ws) = first_some (said_as table version ws) (rows_for table version w ws)

-- a line's words
abbrev pub words_by : {F : Type 0} → Table F → Said F → List (List ℕ)
words_by table line = table.head line.form ∷ map spell line.values

-- ---- the lines of a scenario

-- the version of the language in which a form came
abbrev pub since : Form → ℕ
since _ = 1

abbrev pub scenario_lines : Table Form
scenario_lines = record { forms = FORMS; head = head_of; fields = fields_of; since = since }

abbrev pub Filled : Type 0
Filled = Said Form

-- the fields of a line, one for each value
abbrev pub fields_in : Filled → List Field
fields_in line = spread (fields_of line.form) (length line.values)

abbrev pub filled_by : ℕ → List (List ℕ) → Option Filled
filled_by version ws = line_by scenario_lines version ws

abbrev pub words_for : Filled → List (List ℕ)
words_for line = words_by scenario_lines line
