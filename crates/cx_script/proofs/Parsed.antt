-- What a line says fits the fields of its form.
use Rattle.std.proofs.Common.{◌≡◌, ℕ, zero, suc, ◌+◌, ◌-◌, ◌*◌, ◌^◌, ◌<◌, ◌≤◌, ℤ, pos, negsuc, Bool, true, false, cond, eqb, ◌&&◌, List, [], ◌∷◌, length, map, Option, Some, None, refl, sym, ap, subst, ◌∙◌, arith}
use Rattle.std.specs.Prelude.{neg_ℤ, nat_le, nat_lt, replicate}
use Rattle.std.specs.Option.{option_map}
use Rattle.std.specs.List.{list_all}
use Rattle.std.proofs.Math.Nat.{mul-le-mul_right, pow-suc, pow-le-pow_right, mul_assoc}
use Rattle.std.proofs.lemmas.Bool.{leb-true, and_parts}
use Rattle.std.proofs.lemmas.Bool.Decides.{nat_tests}
use Rattle.cx_text.specs.declared.form.Form.{Form}
use Rattle.cx_text.specs.declared.form.Form.TheVariants as forms
use Rattle.cx_text.specs.declared.form.Field.{Field}
use Rattle.cx_text.specs.declared.form.Field.TheVariants as fields
use Rattle.cx_text.specs.declared.form.Sort.{Sort}
use Rattle.cx_text.specs.Table.{fields_of}
use Rattle.cx_text.specs.Words.{Filled, Value, AWord, ANumber, spell, spread, values_of, value_of, with_value, word_where, said_as, first_some, or_some, rows_for, line_by, filled_by, own_word, scenario_lines, is_digit, is_digits, digits_from, natural_of, integer_of}
use Rattle.cx_text.proofs.Fields.{FitsField, FitFields, IsShort}
use Rattle.cx_text.proofs.Rows.{IsWellFilled}

-- ---- numbers of at most 20 digits

at_most_nine : (c : ℕ) (b : Bool) → (is_digit c && b) ≡ true → (c - 48 ≤ 9) × (b ≡ true)
at_most_nine c b h = (grind (arith, nat_tests), (and_parts (is_digit c) b h).1)

ten_times : (m d : ℕ) (x : ℕ) → d ≤ 9 → suc (m * 10 + d) * x ≤ suc m * (x * 10)
ten_times m d x h =
    let one : suc (m * 10 + d) * x ≤ (suc m * 10) * x = mul-le-mul_right x (omega arith) in
    let two : (suc m * 10) * x ≡ suc m * (10 * x) = mul_assoc (suc m) 10 x in
    let three : 10 * x ≡ x * 10 = omega arith in
    subst (λ y. suc (m * 10 + d) * x ≤ suc m * y) three (subst (λ y. suc (m * 10 + d) * x ≤ y) two one)

digits_below : (m : ℕ) (cs : List ℕ) → list_all is_digit cs ≡ true → digits_from m cs < suc m * 10 ^ length cs
digits_below m [] h = omega arith
digits_below m (c ∷ cs) h =
    let d = at_most_nine c (list_all is_digit cs) h in
    let rest : digits_from (m * 10 + (c - 48)) cs < suc (m * 10 + (c - 48)) * 10 ^ length cs = digits_below (m * 10 + (c - 48)) cs d.1 in
    let step : suc (m * 10 + (c - 48)) * 10 ^ length cs ≤ suc m * (10 ^ length cs * 10) = ten_times m (c - 48) (10 ^ length cs) d.0 in
    rw pow-suc (omega arith)

few_digits : (w : List ℕ) → is_digits w ≡ true → digits_from 0 w < 10 ^ 20
unfolding is_digits
few_digits w h =
    let p = and_parts (nat_lt 0 (length w) && nat_le (length w) 20) (list_all is_digit w) h in
    let q = and_parts (nat_lt 0 (length w)) (nat_le (length w) 20) p.0 in
    let few : length w ≤ 20 = leb-true (length w) 20 q.1 in
    let under : digits_from 0 w < 1 * 10 ^ length w = digits_below 0 w p.1 in
    let most : 10 ^ length w ≤ 10 ^ 20 = pow-le-pow_right (omega arith) few in
    omega arith

-- a natural number that a word says
pub record IsNatural (z : ℤ) : Type 0 where
  pub n : ℕ
  pub is : z ≡ pos n
  pub few : n < 10 ^ 20

natural_where : (b : Bool) (w : List ℕ) (z : ℤ) → is_digits w ≡ b → cond b (Some (pos (digits_from 0 w))) None ≡ Some z → IsNatural z
natural_where true w z d e = record { n = digits_from 0 w; is = cc; few = few_digits w d }
natural_where false w z d e = absurd cc

natural_is : (w : List ℕ) (z : ℤ) → natural_of w ≡ Some z → IsNatural z
natural_is w z e = natural_where (is_digits w) w z refl e

natural_fits : (n : ℕ) → IsNatural (pos n) → n < 10 ^ 20
natural_fits n h = let same : n ≡ h.n = (let e = h.is in cc) in rw same h.few

no_minus : (m : ℕ) → IsNatural (negsuc m) → ⊥
no_minus m h = let e = h.is in cc

short_of : (z : ℤ) → IsNatural z → IsShort z
short_of (pos n) h = natural_fits n h
short_of (negsuc m) h = absurd (no_minus m h)

negated : (z : ℤ) → IsNatural z → IsShort (neg_ℤ z)
negated (pos zero) h = omega arith
negated (pos (suc n)) h = natural_fits (suc n) h
negated (negsuc m) h = absurd (no_minus m h)

mapped : (o : Option ℤ) (z : ℤ) → option_map neg_ℤ o ≡ Some z → ((y : ℤ) → o ≡ Some y → IsNatural y) → IsShort z
mapped None z e h = absurd cc
mapped (Some y) z e h = let same : z ≡ neg_ℤ y = cc in rw same (negated y (h y refl))

integer_where : (b : Bool) (c : ℕ) (cs : List ℕ) (z : ℤ) → cond b (option_map neg_ℤ (natural_of cs)) (natural_of (c ∷ cs)) ≡ Some z → IsShort z
integer_where true c cs z e = mapped (natural_of cs) z e (natural_is cs)
integer_where false c cs z e = short_of z (natural_is (c ∷ cs) z e)

integer_is : (w : List ℕ) (z : ℤ) → integer_of w ≡ Some z → IsShort z
integer_is [] z e = absurd cc
integer_is (c ∷ cs) z e = integer_where (eqb c 45) c cs z e

-- ---- fields

word_is : (b : Bool) (w : List ℕ) (v : Value) → word_where b w ≡ Some v → (b ≡ true) × (v ≡ AWord w)
word_is true w v e = (refl, cc)
word_is false w v e = absurd cc

number_is : (o : Option ℤ) (v : Value) → option_map ANumber o ≡ Some v → (z : ℤ) × (o ≡ Some z) × (v ≡ ANumber z)
number_is None v e = absurd cc
number_is (Some z) v e = (z, refl, cc)

-- a field that holds a word
abbrev pub is_wordy : Field → Bool
is_wordy (fields.Number low high) = false
is_wordy fields.Signed = false
is_wordy fields.Index = false
is_wordy fields.UpToNext = false
is_wordy _ = true

a_natural : (version : ℕ) (own : List ℕ) (low high : ℕ) (v : Value) (w : List ℕ) → option_map ANumber (natural_of w) ≡ Some v → FitsField version own (fields.Number low high) v
a_natural version own low high (AWord u) w e = let p = number_is (natural_of w) (AWord u) e in absurd (let q = p.2 in cc)
a_natural version own low high (ANumber (pos n)) w e =
    let p = number_is (natural_of w) (ANumber (pos n)) e in
    let q : p.0 ≡ pos n = (let r = p.2 in cc) in
    natural_fits n (natural_is w (pos n) (p.1 ∙ ap Some q))
a_natural version own low high (ANumber (negsuc m)) w e =
    let p = number_is (natural_of w) (ANumber (negsuc m)) e in
    let q : p.0 ≡ negsuc m = (let r = p.2 in cc) in
    absurd (no_minus m (natural_is w (negsuc m) (p.1 ∙ ap Some q)))

same_natural : (version : ℕ) (own : List ℕ) (v : Value) → FitsField version own (fields.Number 0 0) v → FitsField version own fields.Index v × FitsField version own fields.UpToNext v
same_natural version own (AWord u) h = absurd h
same_natural version own (ANumber (pos n)) h = (h, h)
same_natural version own (ANumber (negsuc m)) h = absurd h

pub value_fits : (version : ℕ) (own : List ℕ) (f : Field) (w : List ℕ) (v : Value) → value_of version own f w ≡ Some v → FitsField version own f v
unfolding value_of
value_fits version own fields.New w v e = let p = word_is _ w v e in rw p.1 p.0
value_fits version own fields.Own w v e = let p = word_is _ w v e in rw p.1 p.0
value_fits version own (fields.Name sort) w v e = let p = word_is _ w v e in rw p.1 p.0
value_fits version own (fields.Each sort) w v e = let p = word_is _ w v e in rw p.1 p.0
value_fits version own (fields.Several sort least most) w v e = absurd cc
value_fits version own (fields.Word literal) w v e = let p = word_is _ w v e in rw p.1 p.0
value_fits version own fields.Policy w v e = let p = word_is _ w v e in rw p.1 p.0
value_fits version own fields.Relation w v e = let p = word_is _ w v e in rw p.1 p.0
value_fits version own (fields.Number low high) w v e = a_natural version own low high v w e
value_fits version own fields.Signed w v e = let p = number_is (integer_of w) v e in rw p.2 (integer_is w p.0 p.1)
value_fits version own fields.Index w v e = (same_natural version own v (a_natural version own 0 0 v w e)).0
value_fits version own fields.UpToNext w v e = (same_natural version own v (a_natural version own 0 0 v w e)).1

-- a word is its own value
pub wordy_is : (version : ℕ) (own : List ℕ) (f : Field) (w : List ℕ) (v : Value) → is_wordy f ≡ true → value_of version own f w ≡ Some v → v ≡ AWord w
unfolding value_of
wordy_is version own fields.New w v y e = (word_is _ w v e).1
wordy_is version own fields.Own w v y e = (word_is _ w v e).1
wordy_is version own (fields.Name sort) w v y e = (word_is _ w v e).1
wordy_is version own (fields.Each sort) w v y e = (word_is _ w v e).1
wordy_is version own (fields.Several sort least most) w v y e = absurd cc
wordy_is version own (fields.Word literal) w v y e = (word_is _ w v e).1
wordy_is version own fields.Policy w v y e = (word_is _ w v e).1
wordy_is version own fields.Relation w v y e = (word_is _ w v e).1
wordy_is version own (fields.Number low high) w v y e = absurd cc
wordy_is version own fields.Signed w v y e = absurd cc
wordy_is version own fields.Index w v y e = absurd cc
wordy_is version own fields.UpToNext w v y e = absurd cc

with_is : (o : Option Value) (p : Option (List Value)) (vs : List Value) → with_value o p ≡ Some vs → (v : Value) × (us : List Value) × (o ≡ Some v) × (p ≡ Some us) × (vs ≡ v ∷ us)
with_is None p vs e = absurd cc
with_is (Some v) None vs e = absurd cc
with_is (Some v) (Some us) vs e = (v, us, refl, refl, cc)

pub values_fit : (version : ℕ) (own : List ℕ) (fs : List Field) (ws : List (List ℕ)) (vs : List Value) → values_of version own fs ws ≡ Some vs → FitFields version own fs vs × (length vs ≡ length ws)
unfolding values_of
values_fit version own [] [] vs e = let q : vs ≡ [] = cc in rw q (tt, refl)
values_fit version own [] (w ∷ ws) vs e = absurd cc
values_fit version own (f ∷ fs) [] vs e = absurd cc
values_fit version own (f ∷ fs) (w ∷ ws) vs e =
    let p = with_is (value_of version own f w) (values_of version own fs ws) vs e in
    let rest = values_fit version own fs ws p.1 p.3 in
    rw p.4 ((value_fits version own f w p.0 p.2, rest.0), ap suc rest.1)

-- ---- lines

abbrev starts_wordy : List Field → Bool
starts_wordy [] = true
starts_wordy (f ∷ fs) = is_wordy f

each_wordy : (k : ℕ) (sort : Sort) → starts_wordy (replicate k (fields.Each sort)) ≡ true
each_wordy zero sort = refl
each_wordy (suc k) sort = refl

all_wordy : (f : Form) (n : ℕ) → starts_wordy (spread (fields_of f) n) ≡ true
all_wordy forms.LockAll n = each_wordy _ _
all_wordy forms.TryLockAll n = each_wordy _ _
all_wordy _ n = refl

same_own : (version : ℕ) (own : List ℕ) (fs : List Field) (ws : List (List ℕ)) (vs : List Value) → starts_wordy fs ≡ true → values_of version own fs ws ≡ Some vs → own_word (map spell vs) ≡ own_word ws
unfolding values_of
same_own version own [] [] vs y e = let q : vs ≡ [] = cc in rw q refl
same_own version own [] (w ∷ ws) vs y e = absurd cc
same_own version own (f ∷ fs) [] vs y e = absurd cc
same_own version own (f ∷ fs) (w ∷ ws) vs y e =
    let p = with_is (value_of version own f w) (values_of version own fs ws) vs e in
    rw (p.4, wordy_is version own f w p.0 y p.2) refl

-- a row that takes the words
pub record TakenBy (version : ℕ) (ws : List (List ℕ)) (l : Filled) : Type 0 where
  pub taken : values_of version (own_word ws) (spread (fields_of l.form) (length ws)) ws ≡ Some l.values

said_is : (version : ℕ) (ws : List (List ℕ)) (f : Form) (l : Filled) (o : Option (List Value)) → values_of version (own_word ws) (spread (fields_of f) (length ws)) ws ≡ o
    → option_map (λ vs. record { form = f; values = vs }) o ≡ Some l → TakenBy version ws l
said_is version ws f l None e k = absurd cc
said_is version ws f l (Some vs) e k =
    let q : l ≡ record { form = f; values = vs } = cc in
    subst (λ (m : Filled). TakenBy version ws m) (sym q) (record { taken = e })

or_is : (version : ℕ) (ws : List (List ℕ)) (l : Filled) (o rest : Option Filled) → (o ≡ Some l → TakenBy version ws l) → (rest ≡ Some l → TakenBy version ws l) → or_some o rest ≡ Some l → TakenBy version ws l
or_is version ws l None rest here later e = later e
or_is version ws l (Some m) rest here later e = here e

first_is : (version : ℕ) (ws : List (List ℕ)) (l : Filled) (rows : List Form) → first_some (said_as scenario_lines version ws) rows ≡ Some l → TakenBy version ws l
first_is version ws l [] e = absurd cc
first_is version ws l (f ∷ rows) e = or_is version ws l (said_as scenario_lines version ws f) (first_some (said_as scenario_lines version ws) rows) (λ k. said_is version ws f l (values_of version (own_word ws) (spread (fields_of f) (length ws)) ws) refl k) (λ k. first_is version ws l rows k) e

-- what words say fits the fields of its form
pub filled_is : (version : ℕ) (ws : List (List ℕ)) (l : Filled) → filled_by version ws ≡ Some l → IsWellFilled scenario_lines version l
unfolding line_by
filled_is version [] l e = absurd cc
filled_is version (w ∷ ws) l e =
    let t = first_is version ws l (rows_for scenario_lines version w ws) e in
    let fs : List Field = spread (fields_of l.form) (length ws) in
    let own : own_word (map spell l.values) ≡ own_word ws = same_own version (own_word ws) fs ws l.values (all_wordy l.form (length ws)) t.taken in
    let fit = values_fit version (own_word ws) fs ws l.values t.taken in
    let fits : FitFields version (own_word ws) (spread (fields_of l.form) (length ws)) l.values = fit.0 in
    rw (own, fit.1) fits
