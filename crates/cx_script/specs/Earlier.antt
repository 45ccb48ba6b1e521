-- What the earlier lines of a scenario say.
use Rattle.std.specs.Prelude.{ℕ, ℤ, pos, Bool, true, false, ◌&&◌, List, [], ◌∷◌, map, filter, slice_get, Option, Some, None, is_some, if◌then◌else◌, find, option_and_then}
use Rattle.std.specs.List.{list_any}
use Rattle.std.specs.Str.{bytes_eq}
use Rattle.cx_text.specs.declared.form.Form.{Form}
use Rattle.cx_text.specs.declared.form.Form.TheVariants as forms
use Rattle.cx_text.specs.declared.form.Field.{Field}
use Rattle.cx_text.specs.declared.form.Sort.{Sort}
use Rattle.cx_text.specs.declared.form.Made.{Made}
use Rattle.cx_text.specs.declared.form.Made.TheVariants as mades
use Rattle.cx_text.specs.declared.form.Caller.{Caller}
use Rattle.cx_text.specs.declared.form.Caller.TheVariants as callers
use Rattle.cx_text.specs.Table.{makes, who_may}
use Rattle.cx_text.specs.Words.{Filled, Value, AWord, ANumber, main_word, fields_in, is_one_of}

-- ---- a line's values

-- the word of a value, and none of a number
abbrev pub word_in : Option Value → List ℕ
word_in (Some (AWord w)) = w
word_in _ = []

-- the number of a value, and 0 of a word
abbrev pub number_in : Option Value → ℤ
number_in (Some (ANumber n)) = n
number_in _ = pos 0

-- the word after the head at place i
abbrev pub word_at : Filled → ℕ → List ℕ
word_at line i = word_in (slice_get line.values i)

-- the number after the head at place i
abbrev pub number_at : Filled → ℕ → ℤ
number_at line i = number_in (slice_get line.values i)

-- the first word after the head: of a declaration its name, of most calls what they are on
abbrev pub subject : Filled → List ℕ
subject line = word_at line 0

-- ---- parts of a scenario

-- the part of a scenario that a line belongs to
pub data Part : Type 0 where
  AVersion : Part
  ADeclaration : Part
  ABody : Part
  AMain : Part
  ACall : Part
  AnEnd : Part

-- the part that lines of a form belong to
abbrev pub part_of : Form → Part
part_of forms.VersionOne = AVersion
part_of forms.Body = ABody
part_of forms.Main = AMain
part_of forms.End = AnEnd
part_of form = if is_some (makes form) then ADeclaration else ACall

-- a call of a body
abbrev pub is_call : Filled → Bool
is_call line = call (part_of line.form)
  where
    call : Part → Bool
    call ACall = true
    call _ = false

-- the line that begins the body of main
abbrev pub is_main : Filled → Bool
is_main line = main (part_of line.form)
  where
    main : Part → Bool
    main AMain = true
    main _ = false

-- a line that begins a body
abbrev pub begins_body : Filled → Bool
begins_body line = begins (part_of line.form)
  where
    begins : Part → Bool
    begins ABody = true
    begins AMain = true
    begins _ = false

-- what may stand after these lines
pub data Place : Type 0 where
  Opening : Place
  Declaring : Place
  Between : Place
  Inside : Place
  Over : Place

-- the last of these lines
abbrev pub last_of : List Filled → Option Filled
last_of [] = None
last_of (l ∷ []) = Some l
last_of (l ∷ m ∷ ls) = last_of (m ∷ ls)

-- an `end` ends the text where there was a `main`
abbrev pub place_after : List Filled → Place
place_after earlier = after (last_of earlier)
  where
    behind : Part → Place
    behind AVersion = Declaring
    behind ADeclaration = Declaring
    behind AnEnd = if list_any is_main earlier then Over else Between
    behind _ = Inside

    after : Option Filled → Place
    after None = Opening
    after (Some line) = behind (part_of line.form)

-- which part may stand where
abbrev pub may_stand : Place → Part → Bool
may_stand Opening AVersion = true
may_stand Declaring ADeclaration = true
may_stand Declaring ABody = true
may_stand Declaring AMain = true
may_stand Between ABody = true
may_stand Between AMain = true
may_stand Inside ACall = true
may_stand Inside AnEnd = true
may_stand _ _ = false

-- ---- the body that the next line stands in

-- the lines from the last that begins a body
abbrev pub from_last_body : List Filled → List Filled
from_last_body [] = []
from_last_body (l ∷ ls) = if list_any begins_body ls then from_last_body ls else (if begins_body l then l ∷ ls else [])

-- the calls of the body that the next line stands in
abbrev pub this_body : List Filled → List Filled
this_body earlier = filter is_call (from_last_body earlier)

-- whose body it is
abbrev pub this_thread : List Filled → List ℕ
this_thread earlier = named (from_last_body earlier)
  where
    name : Filled → List ℕ
    name l = if is_main l then main_word else subject l

    named : List Filled → List ℕ
    named [] = main_word
    named (l ∷ ls) = name l

-- ---- names

-- a declaration of this name
abbrev pub declares : List ℕ → Filled → Bool
declares name line = is_some (makes line.form) && bytes_eq (subject line) name

-- the first declaration of a name
abbrev pub declaration_of : List Filled → List ℕ → Option Filled
declaration_of earlier name = find (declares name) earlier

-- what a name stands for
abbrev pub made_of : List Filled → List ℕ → Option Made
made_of earlier name = if bytes_eq main_word name then Some mades.Main else option_and_then (λ (l : Filled). makes l.form) (declaration_of earlier name)

-- main, or a name that is declared
abbrev pub is_known : List Filled → List ℕ → Bool
is_known earlier name = is_some (made_of earlier name)

-- the words of values at fields that a test picks
abbrev pub picked_words : (Field → Bool) → List Field → List Value → List (List ℕ)
picked_words picks [] vs = []
picked_words picks (f ∷ fs) [] = []
picked_words picks (f ∷ fs) (v ∷ vs) = if picks f then word_in (Some v) ∷ picked_words picks fs vs else picked_words picks fs vs

-- the words of a line at fields that a test picks
abbrev pub words_at : (Field → Bool) → Filled → List (List ℕ)
words_at picks line = picked_words picks (fields_in line) line.values

-- ---- who may call

-- the thread that is named right after the name is the owner
abbrev pub is_owner : Filled → List ℕ → Bool
is_owner line name = bytes_eq (word_at line 1) name

-- all words of a promise's line after its owner are its readers
abbrev pub is_reader : Filled → List ℕ → Bool
is_reader line name = is_one_of (readers line.form line.values) name
  where
    readers : Form → List Value → List (List ℕ)
    readers forms.SharedPromise (n ∷ o ∷ vs) = map (λ v. word_in (Some v)) vs
    readers _ (n ∷ o ∷ r ∷ vs) = word_in (Some r) ∷ []
    readers _ _ = []

-- whether the thread `me` may make a call on this name, where only such callers may
abbrev pub is_caller : List Filled → List ℕ → List ℕ → Caller → Bool
is_caller earlier me name callers.Anyone = true
is_caller earlier me name callers.OnlyMain = bytes_eq main_word me
is_caller earlier me name callers.Owner = declared (declaration_of earlier name)
  where
    declared : Option Filled → Bool
    declared None = false
    declared (Some l) = is_owner l me
is_caller earlier me name callers.Reader = declared (declaration_of earlier name)
  where
    declared : Option Filled → Bool
    declared None = false
    declared (Some l) = is_reader l me

-- whether this name may stand in a place of this sort, in a line of this thread
abbrev pub fits_sort : List Filled → List ℕ → List ℕ → Sort → Bool
fits_sort earlier me name sort = permits (option_and_then (who_may sort) (made_of earlier name))
  where
    permits : Option Caller → Bool
    permits None = false
    permits (Some c) = is_caller earlier me name c
