-- A line that is written is read as itself, where its row is the only one that may be meant.
use Rattle.std.proofs.Common.{◌≡◌, ℕ, suc, List, [], ◌∷◌, length, map, Option, Some, refl, ap, ◌∙◌}
use Rattle.cx_text.specs.Words.{Table, Said, Value, spell, spread, values_of, said_as, first_some, rows_for, line_by, words_by, own_word}
use Rattle.cx_text.proofs.Fields.{FitFields, values_back}

-- its words belong to one row alone
abbrev pub IsAlone : {F : Type 0} → Table F → ℕ → Said F → Type 0
IsAlone table version line = rows_for table version (table.head line.form) (map spell line.values) ≡ line.form ∷ []

-- its values fit its fields
abbrev pub IsWellFilled : {F : Type 0} → Table F → ℕ → Said F → Type 0
IsWellFilled table version line = FitFields version (own_word (map spell line.values)) (spread (table.fields line.form) (length line.values)) line.values

length_spelled : (vs : List Value) → length (map spell vs) ≡ length vs
length_spelled [] = refl
length_spelled (v ∷ vs) = ap suc (length_spelled vs)

one_row : {A B : Type 0} (f : A → Option B) (x : A) (y : B) → f x ≡ Some y → first_some f (x ∷ []) ≡ Some y
one_row f x y e = rw e refl

module _ (F : Type 0) (table : Table F) (version : ℕ) where
  pub said_back : (line : Said F) → IsWellFilled table version line → said_as table version (map spell line.values) line.form ≡ Some line
  said_back line fits =
      let vs : values_of version (own_word (map spell line.values)) (spread (table.fields line.form) (length (map spell line.values))) (map spell line.values) ≡ Some line.values =
      ap (λ (n : ℕ). values_of version (own_word (map spell line.values)) (spread (table.fields line.form) n) (map spell line.values)) (length_spelled line.values)
      ∙ values_back version (own_word (map spell line.values)) (spread (table.fields line.form) (length line.values)) line.values fits in
      rw vs refl

  -- the law of both tables
  pub line_back : (line : Said F) → IsAlone table version line → IsWellFilled table version line → line_by table version (words_by table line) ≡ Some line
  unfolding line_by
  line_back line alone fits =
      ap (λ (rows : List F). first_some (said_as table version (map spell line.values)) rows) alone
      ∙ one_row (said_as table version (map spell line.values)) line.form line (said_back line fits)
