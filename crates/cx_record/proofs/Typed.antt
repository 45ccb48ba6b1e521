-- What stands at the places of a line that has a row and no number or name outside its field.
use Rattle.std.proofs.Common.{◌≡◌, ℕ, zero, suc, ◌<◌, ◌≤◌, ℤ, pos, negsuc, Bool, true, false, cond, ◌&&◌, ◌||◌, not, List, [], ◌∷◌, length, Option, Some, None, refl, sym, ap, subst, ◌∙◌, arith}
use Rattle.std.specs.Prelude.{slice_get, nat_le, nat_lt, int_le}
use Rattle.std.proofs.lemmas.Bool.{or_parts, and_parts, leb-true, leb-false, le-leb, lt-ltb, true≢false}
use Rattle.cx_machine.specs.Words.{is_small}
use Rattle.cx_text.specs.declared.form.Field.{Field}
use Rattle.cx_text.specs.declared.form.Field.TheVariants as fields
use Rattle.cx_text.specs.declared.form.Sort.{Sort}
use Rattle.cx_text.specs.Words.{Value, AWord, ANumber}
use Rattle.cx_text.proofs.Fields.{FitsField, FitFields}
use Rattle.cx_script.specs.Earlier.{word_in, number_in}
use Rattle.cx_script.specs.Faults.{is_misfit, any_misfit, is_outside, any_outside, is_between, count_in}
use Rattle.cx_record.specs.ItemLines.{within}

unfalse : (b : Bool) → not b ≡ false → b ≡ true
unfalse true h = refl
unfalse false h = absurd (true≢false h)

-- ---- numbers

-- a number within these bounds
pub record IsBetween (z : ℤ) (low high : ℕ) : Type 0 where
  pub n : ℕ
  pub is : z ≡ pos n
  pub least : nat_le low n ≡ true
  pub most : nat_le n high ≡ true

head_number : (own : List ℕ) (low high : ℕ) (v : Value) (vs : List Value) (many : ℤ) (fs : List Field) → FitsField 1 own (fields.Number low high) v → any_outside many (fields.Number low high ∷ fs) (v ∷ vs) ≡ false → IsBetween (number_in (Some v)) low high
head_number own low high (AWord w) vs many fs h o = absurd h
head_number own low high (ANumber (negsuc n)) vs many fs h o = absurd h
head_number own low high (ANumber (pos n)) vs many fs h o =
    let p = or_parts (is_outside many (fields.Number low high) (pos n) vs) (any_outside many fs vs) o in
    let q = and_parts (nat_le low n) (nat_le n high) (unfalse (is_between (pos low) (pos high) (pos n)) p.0) in
    record { n = n; is = refl; least = q.0; most = q.1 }

rest_outside : (many : ℤ) (f : Field) (fs : List Field) (v : Value) (vs : List Value) → any_outside many (f ∷ fs) (v ∷ vs) ≡ false → any_outside many fs vs ≡ false
rest_outside many f fs (AWord w) vs o = o
rest_outside many f fs (ANumber n) vs o = (or_parts (is_outside many f n vs) (any_outside many fs vs) o).1

pub number_at_place : (own : List ℕ) (many : ℤ) (fs : List Field) (vs : List Value) → FitFields 1 own fs vs → any_outside many fs vs ≡ false → (i low high : ℕ) → slice_get fs i ≡ Some (fields.Number low high) → IsBetween (number_in (slice_get vs i)) low high
number_at_place own many [] vs h o i low high e = absurd cc
number_at_place own many (f ∷ fs) [] h o i low high e = absurd h
number_at_place own many (f ∷ fs) (v ∷ vs) h o zero low high e =
    let same : f ≡ fields.Number low high = cc in
    head_number own low high v vs many fs (subst (λ (x : Field). FitsField 1 own x v) same h.0) (subst (λ (x : Field). any_outside many (x ∷ fs) (v ∷ vs) ≡ false) same o)
number_at_place own many (f ∷ fs) (v ∷ vs) h o (suc i) low high e = number_at_place own many fs vs h.1 (rest_outside many f fs v vs o) i low high e

-- an index below this many
pub record IsIndex (z many : ℤ) : Type 0 where
  pub n : ℕ
  pub is : z ≡ pos n
  pub below : int_le many (pos n) ≡ false

head_index : (own : List ℕ) (v : Value) (vs : List Value) (many : ℤ) (fs : List Field) → FitsField 1 own fields.Index v → any_outside many (fields.Index ∷ fs) (v ∷ vs) ≡ false → IsIndex (number_in (Some v)) many
head_index own (AWord w) vs many fs h o = absurd h
head_index own (ANumber (negsuc n)) vs many fs h o = absurd h
head_index own (ANumber (pos n)) vs many fs h o = record { n = n; is = refl; below = (or_parts (is_outside many fields.Index (pos n) vs) (any_outside many fs vs) o).0 }

pub index_at_place : (own : List ℕ) (many : ℤ) (fs : List Field) (vs : List Value) → FitFields 1 own fs vs → any_outside many fs vs ≡ false → (i : ℕ) → slice_get fs i ≡ Some fields.Index → IsIndex (number_in (slice_get vs i)) many
index_at_place own many [] vs h o i e = absurd cc
index_at_place own many (f ∷ fs) [] h o i e = absurd h
index_at_place own many (f ∷ fs) (v ∷ vs) h o zero e =
    let same : f ≡ fields.Index = cc in
    head_index own v vs many fs (subst (λ (x : Field). FitsField 1 own x v) same h.0) (subst (λ (x : Field). any_outside many (x ∷ fs) (v ∷ vs) ≡ false) same o)
index_at_place own many (f ∷ fs) (v ∷ vs) h o (suc i) e = index_at_place own many fs vs h.1 (rest_outside many f fs v vs o) i e

-- ---- names

head_name : (own : List ℕ) (fits : List ℕ → Sort → Bool) (sort : Sort) (v : Value) → FitsField 1 own (fields.Name sort) v → is_misfit fits (fields.Name sort) v ≡ false → fits (word_in (Some v)) sort ≡ true
head_name own fits sort (AWord w) h m = unfalse (fits w sort) m
head_name own fits sort (ANumber n) h m = absurd h

pub name_at_place : (own : List ℕ) (fits : List ℕ → Sort → Bool) (fs : List Field) (vs : List Value) → FitFields 1 own fs vs → any_misfit fits fs vs ≡ false → (i : ℕ) (sort : Sort) → slice_get fs i ≡ Some (fields.Name sort) → fits (word_in (slice_get vs i)) sort ≡ true
name_at_place own fits [] vs h m i sort e = absurd cc
name_at_place own fits (f ∷ fs) [] h m i sort e = absurd h
name_at_place own fits (f ∷ fs) (v ∷ vs) h m zero sort e =
    let same : f ≡ fields.Name sort = cc in
    let p = or_parts (is_misfit fits f v) (any_misfit fits fs vs) m in
    head_name own fits sort v (subst (λ (x : Field). FitsField 1 own x v) same h.0) (subst (λ (x : Field). is_misfit fits x v ≡ false) same p.0)
name_at_place own fits (f ∷ fs) (v ∷ vs) h m (suc i) sort e = name_at_place own fits fs vs h.1 (or_parts (is_misfit fits f v) (any_misfit fits fs vs) m).1 i sort e

-- ---- numbers of 32 bits

abbrev pub small : ℤ → ℕ
small z = count_in (within (pos 0) (pos 4294967295) z)

few : (n : ℕ) → nat_le n 4294967295 ≡ true → is_small (pos n) ≡ true
few n h = let lt : nat_lt n 4294967296 ≡ true = lt-ltb n 4294967296 (let le = leb-true n 4294967295 h in omega arith) in rw lt refl

small_where : (b : Bool) (z : ℤ) → is_between (pos 0) (pos 4294967295) z ≡ b → is_small (pos (count_in (cond b z (pos 0)))) ≡ true
small_where true (pos n) e = few n (and_parts (nat_le 0 n) (nat_le n 4294967295) e).1
small_where true (negsuc n) e = absurd cc
small_where false z e = refl

-- what is taken as a number of 32 bits is one
pub small_small : (z : ℤ) → is_small (pos (small z)) ≡ true
small_small z = small_where (is_between (pos 0) (pos 4294967295) z) z refl

-- a number that has at most 32 bits is itself
pub small_in : (z : ℤ) (low high : ℕ) → nat_le high 4294967295 ≡ true → IsBetween z low high → (nat_le low (small z) ≡ true) × (nat_le (small z) high ≡ true)
small_in z low high h b =
    let most : nat_le b.n 4294967295 ≡ true = le-leb b.n 4294967295 (let x = leb-true b.n high b.most in let y = leb-true high 4294967295 h in omega arith) in
    rw (b.is, le-leb 0 b.n (omega arith), most) (b.least, b.most)

under : (b : Bool) (n many : ℕ) → n < many → nat_lt (count_in (cond b (pos n) (pos 0))) many ≡ true
under true n many h = lt-ltb n many h
under false n many h = lt-ltb 0 many (omega arith)

-- an index stays one
pub index_in : (z : ℤ) (many : ℕ) → IsIndex z (pos many) → nat_lt (small z) many ≡ true
index_in z many x =
    let less : x.n < many = not_le many x.n x.below in
    rw x.is (under (is_between (pos 0) (pos 4294967295) (pos x.n)) x.n many less)
  where
    not_le : (a b : ℕ) → int_le (pos a) (pos b) ≡ false → b < a
    not_le a b h = leb-false a b h
