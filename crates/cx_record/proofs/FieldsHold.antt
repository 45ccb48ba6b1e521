-- Values that hold at their fields: the line fits its row, and has no fault by its names and numbers.
use Rattle.std.proofs.Common.{◌≡◌, ℕ, suc, ◌^◌, ◌<◌, ◌≤◌, ℤ, pos, negsuc, Bool, true, false, ◌&&◌, ◌||◌, not, List, [], ◌∷◌, refl, arith}
use Rattle.std.specs.Prelude.{int_le}
use Rattle.std.specs.Str.{bytes_eq}
use Rattle.cx_text.specs.declared.form.Field.{Field}
use Rattle.cx_text.specs.declared.form.Field.TheVariants as fields
use Rattle.cx_text.specs.Table.{spelling, takes_main}
use Rattle.cx_text.specs.Words.{Value, AWord, ANumber, is_name, main_word}
use Rattle.cx_text.proofs.Fields.{FitsField, FitFields, IsShort}
use Rattle.cx_script.specs.Faults.{is_misfit, any_misfit, is_outside, any_outside, is_between}
use Rattle.cx_record.specs.Roster.{Roster, is_known, fits_sort}

-- a value holds at a field, where the line's object has so many numbers
abbrev pub HoldsAt : Roster → ℤ → Field → Value → Type 0
HoldsAt r many (fields.Name sort) (AWord w) = ((is_name 1 w || (takes_main sort && bytes_eq main_word w)) ≡ true) × (is_known r w ≡ true) × (fits_sort r w sort ≡ true)
HoldsAt r many (fields.Word literal) (AWord w) = bytes_eq (spelling literal) w ≡ true
HoldsAt r many (fields.Number low high) (ANumber (pos n)) = (is_between (pos low) (pos high) (pos n) ≡ true) × (n < 10 ^ 20)
HoldsAt r many fields.Signed (ANumber z) = (is_between (negsuc 9223372036854775807) (pos 9223372036854775807) z ≡ true) × IsShort z
HoldsAt r many fields.Index (ANumber (pos n)) = (int_le many (pos n) ≡ false) × (n < 10 ^ 20)
HoldsAt r many _ _ = ⊥

abbrev pub HoldAll : Roster → ℤ → List Field → List Value → Type 0
HoldAll r many [] [] = Unit {0}
HoldAll r many (f ∷ fs) (v ∷ vs) = HoldsAt r many f v × HoldAll r many fs vs
HoldAll r many _ _ = ⊥

-- what follows for the values of a line
pub record AreClean (r : Roster) (many : ℤ) (fs : List Field) (vs : List Value) : Type 0 where
  pub known : any_misfit (λ w sort. is_known r w) fs vs ≡ false
  pub kind : any_misfit (fits_sort r) fs vs ≡ false
  pub inside : any_outside many fs vs ≡ false

not_so : (b : Bool) → b ≡ true → not b ≡ false
not_so true e = refl
not_so false e = absurd cc

module _ (r : Roster) (many : ℤ) where
  fits_at : (own : List ℕ) (f : Field) (v : Value) → HoldsAt r many f v → FitsField 1 own f v
  fits_at own (fields.Name sort) (AWord w) h = h.0
  fits_at own (fields.Word literal) (AWord w) h = h
  fits_at own (fields.Number low high) (ANumber (pos n)) h = h.1
  fits_at own fields.Signed (ANumber z) h = h.1
  fits_at own fields.Index (ANumber (pos n)) h = h.1
  fits_at own _ _ h = absurd h

  pub all_fit : (own : List ℕ) (fs : List Field) (vs : List Value) → HoldAll r many fs vs → FitFields 1 own fs vs
  all_fit own [] [] h = tt
  all_fit own [] (v ∷ vs) h = absurd h
  all_fit own (f ∷ fs) [] h = absurd h
  all_fit own (f ∷ fs) (v ∷ vs) h = (fits_at own f v h.0, all_fit own fs vs h.1)

  known_at : (f : Field) (v : Value) → HoldsAt r many f v → is_misfit (λ w sort. is_known r w) f v ≡ false
  known_at (fields.Name sort) (AWord w) h = not_so (is_known r w) h.1
  known_at (fields.Each sort) v h = absurd h
  known_at _ _ h = refl

  kind_at : (f : Field) (v : Value) → HoldsAt r many f v → is_misfit (fits_sort r) f v ≡ false
  kind_at (fields.Name sort) (AWord w) h = not_so (fits_sort r w sort) h.2
  kind_at (fields.Each sort) v h = absurd h
  kind_at _ _ h = refl

  inside_at : (f : Field) (n : ℤ) (after : List Value) → HoldsAt r many f (ANumber n) → is_outside many f n after ≡ false
  inside_at (fields.Number low high) (pos n) after h = rw h.0 refl
  inside_at (fields.Number low high) (negsuc n) after h = absurd h
  inside_at fields.Signed n after h = rw h.0 refl
  inside_at fields.Index (pos n) after h = h.0
  inside_at fields.Index (negsuc n) after h = absurd h
  inside_at fields.UpToNext n after h = absurd h
  inside_at _ n after h = refl

  both : (a b : Bool) → a ≡ false → b ≡ false → (a || b) ≡ false
  both a b p q = rw (p, q) refl

  pub all_clean : (fs : List Field) (vs : List Value) → HoldAll r many fs vs → AreClean r many fs vs
  all_clean [] [] h = record { known = refl; kind = refl; inside = refl }
  all_clean [] (v ∷ vs) h = absurd h
  all_clean (f ∷ fs) [] h = absurd h
  all_clean (f ∷ fs) (AWord w ∷ vs) h =
      let c = all_clean fs vs h.1 in
      record {
        known = both (is_misfit (λ w sort. is_known r w) f (AWord w)) (any_misfit (λ w sort. is_known r w) fs vs) (known_at f (AWord w) h.0) c.known;
        kind = both (is_misfit (fits_sort r) f (AWord w)) (any_misfit (fits_sort r) fs vs) (kind_at f (AWord w) h.0) c.kind;
        inside = c.inside;
      }
  all_clean (f ∷ fs) (ANumber n ∷ vs) h =
      let c = all_clean fs vs h.1 in
      record {
        known = both (is_misfit (λ w sort. is_known r w) f (ANumber n)) (any_misfit (λ w sort. is_known r w) fs vs) (known_at f (ANumber n) h.0) c.known;
        kind = both (is_misfit (fits_sort r) f (ANumber n)) (any_misfit (fits_sort r) fs vs) (kind_at f (ANumber n) h.0) c.kind;
        inside = both (is_outside many f n vs) (any_outside many fs vs) (inside_at f n vs h.0) c.inside;
      }
