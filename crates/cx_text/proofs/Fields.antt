-- A word that a value was written as is read as that value, at a field that it fits.
use Rattle.std.proofs.Common.{◌≡◌, ℕ, suc, ◌+◌, ◌-◌, ◌*◌, ◌^◌, ◌<◌, ◌≤◌, ℤ, pos, negsuc, Bool, true, false, eqb, ◌&&◌, ◌||◌, List, [], ◌∷◌, length, map, Some, refl, sym, ap, ◌∙◌, arith}
use Rattle.std.specs.List.{list_all}
use Rattle.std.specs.Char.{digit_value}
use Rattle.std.specs.Fmt.{decimal, signed_decimal}
use Rattle.std.specs.Str.{bytes_eq}
use Rattle.std.specs.Str.Parse.{AllDigits, digits_value_after}
use Rattle.std.proofs.lemmas.Bool.{lt-ltb, le-leb}
use Rattle.std.proofs.lemmas.Bool.Decides.{nat_tests}
use Rattle.std.proofs.lemmas.Str.Parse.{digit_from_value}
use Rattle.std.proofs.lemmas.Fmt.{decimal_is_IsNumeral_wide, length-decimal-le_wide}
use Rattle.cx_text.specs.declared.form.Field.{Field}
use Rattle.cx_text.specs.declared.form.Field.TheVariants as fields
use Rattle.cx_text.specs.Table.{spelling, takes_main}
use Rattle.cx_text.specs.Words.{Value, AWord, ANumber, spell, value_of, values_of, is_digit, is_digits, digits_from, natural_of, integer_of, is_name, is_one_of, policy_words, relation_words, main_word}

digit_is : (c : ℕ) → digit_value c < 10 → (is_digit c ≡ true) × (digit_value c ≡ c - 48)
digit_is c h = let r = digit_from_value c h in (grind (arith, nat_tests), grind (arith, nat_tests))

digits_back : (m : ℕ) (cs : List ℕ) → AllDigits 10 cs → (list_all is_digit cs ≡ true) × (digits_from m cs ≡ digits_value_after 10 m cs)
digits_back m [] h = (refl, refl)
digits_back m (c ∷ cs) h =
    let d = digit_is c h.0 in
    let rest = digits_back (m * 10 + digit_value c) cs h.1 in
    let same : m * 10 + digit_value c ≡ m * 10 + (c - 48) = ap (λ (k : ℕ). m * 10 + k) d.1 in
    (rw (d.0) rest.0, sym (ap (λ (k : ℕ). digits_from k cs) same) ∙ rest.1)

-- numbers below 10 ^ 20 have at most 20 digits
are_digits : (w : List ℕ) → 0 < length w → length w ≤ 20 → list_all is_digit w ≡ true → is_digits w ≡ true
unfolding is_digits
are_digits w some few all = rw (lt-ltb 0 (length w) some, le-leb (length w) 20 few, all) refl

pub decimal_digits : (n : ℕ) → n < 10 ^ 20 → (is_digits (decimal n) ≡ true) × (digits_from 0 (decimal n) ≡ n) × (list_all is_digit (decimal n) ≡ true)
decimal_digits n lt =
    let d = decimal_is_IsNumeral_wide n (omega arith) in
    let b = digits_back 0 (decimal n) d.0.1 in
    (are_digits (decimal n) d.0.0 (length-decimal-le_wide 20 n (omega arith) lt (omega arith)) b.0, b.1 ∙ d.1, b.0)

pub natural_back : (n : ℕ) → n < 10 ^ 20 → natural_of (decimal n) ≡ Some (pos n)
natural_back n lt = let d = decimal_digits n lt in rw (d.0, d.1) refl

no_minus : (c : ℕ) (b : Bool) → (is_digit c && b) ≡ true → eqb c 45 ≡ false
no_minus c b h = grind (arith, nat_tests)

unsigned : (w : List ℕ) → list_all is_digit w ≡ true → integer_of w ≡ natural_of w
unfolding is_digits
unsigned [] h = refl
unsigned (c ∷ cs) h = rw (no_minus c (list_all is_digit cs) h) refl

-- a number that is written in at most 20 digits
abbrev pub IsShort : ℤ → Type 0
IsShort (pos n) = n < 10 ^ 20
IsShort (negsuc n) = suc n < 10 ^ 20

pub integer_back : (n : ℤ) → IsShort n → integer_of (signed_decimal n) ≡ Some n
integer_back (pos n) lt = unsigned (decimal n) (decimal_digits n lt).2 ∙ natural_back n lt
integer_back (negsuc n) lt = rw (natural_back (suc n) lt) refl

-- ---- fields

-- a value that a field can hold
abbrev pub FitsField : ℕ → List ℕ → Field → Value → Type 0
FitsField version own fields.New (AWord w) = is_name version w ≡ true
FitsField version own fields.Own (AWord w) = (is_name version w && bytes_eq own w) ≡ true
FitsField version own (fields.Name sort) (AWord w) = (is_name version w || (takes_main sort && bytes_eq main_word w)) ≡ true
FitsField version own (fields.Each sort) (AWord w) = (is_name version w || (takes_main sort && bytes_eq main_word w)) ≡ true
FitsField version own (fields.Word literal) (AWord w) = bytes_eq (spelling literal) w ≡ true
FitsField version own fields.Policy (AWord w) = is_one_of policy_words w ≡ true
FitsField version own fields.Relation (AWord w) = is_one_of relation_words w ≡ true
FitsField version own (fields.Number low high) (ANumber (pos n)) = n < 10 ^ 20
FitsField version own fields.Signed (ANumber n) = IsShort n
FitsField version own fields.Index (ANumber (pos n)) = n < 10 ^ 20
FitsField version own fields.UpToNext (ANumber (pos n)) = n < 10 ^ 20
FitsField version own _ _ = ⊥

-- the law per field
pub field_back : (version : ℕ) (own : List ℕ) (f : Field) (v : Value) → FitsField version own f v → value_of version own f (spell v) ≡ Some v
unfolding value_of
field_back version own fields.New (AWord w) h = rw h refl
field_back version own fields.Own (AWord w) h = rw h refl
field_back version own (fields.Name sort) (AWord w) h = rw h refl
field_back version own (fields.Each sort) (AWord w) h = rw h refl
field_back version own (fields.Word literal) (AWord w) h = rw h refl
field_back version own fields.Policy (AWord w) h = rw h refl
field_back version own fields.Relation (AWord w) h = rw h refl
field_back version own (fields.Number low high) (ANumber (pos n)) h = rw (natural_back n h) refl
field_back version own fields.Signed (ANumber n) h = rw (integer_back n h) refl
field_back version own fields.Index (ANumber (pos n)) h = rw (natural_back n h) refl
field_back version own fields.UpToNext (ANumber (pos n)) h = rw (natural_back n h) refl
field_back version own _ _ h = absurd h

abbrev pub FitFields : ℕ → List ℕ → List Field → List Value → Type 0
FitFields version own [] [] = Unit {0}
FitFields version own (f ∷ fs) (v ∷ vs) = FitsField version own f v × FitFields version own fs vs
FitFields version own _ _ = ⊥

pub values_back : (version : ℕ) (own : List ℕ) (fs : List Field) (vs : List Value) → FitFields version own fs vs → values_of version own fs (map spell vs) ≡ Some vs
unfolding values_of
values_back version own [] [] h = refl
values_back version own [] (v ∷ vs) h = absurd h
values_back version own (f ∷ fs) [] h = absurd h
values_back version own (f ∷ fs) (v ∷ vs) h = rw (field_back version own f v h.0, values_back version own fs vs h.1) refl
