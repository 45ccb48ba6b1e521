-- The tests of one line, as they go over its fields and values.
use Rattle.std.specs.Prelude.{ℕ, ℤ, Bool, false, ◌&&◌, ◌||◌, not, List, [], ◌∷◌, drop, Some, if◌then◌else◌}
use Rattle.cx_text.specs.declared.form.Field.{Field}
use Rattle.cx_text.specs.Words.{Filled, Value, AWord, ANumber}
use Rattle.cx_script.specs.Earlier.{word_in, is_known}
use Rattle.cx_script.specs.Faults.{is_name_field, is_each_field, is_outside}

abbrev pub any_unknown : List Filled → List Field → List Value → Bool
any_unknown kept [] vs = false
any_unknown kept (f ∷ fs) [] = false
any_unknown kept (f ∷ fs) (v ∷ vs) = (is_name_field f && not (is_known kept (word_in (Some v)))) || any_unknown kept fs vs

-- a number outside its field, at the head of these values
abbrev pub head_outside : ℤ → Field → List Value → Bool
head_outside numbers f [] = false
head_outside numbers f (AWord w ∷ vs) = false
head_outside numbers f (ANumber n ∷ vs) = is_outside numbers f n vs

abbrev pub any_outside : ℤ → List Field → List Value → Bool
any_outside numbers [] vs = false
any_outside numbers (f ∷ fs) vs = head_outside numbers f vs || any_outside numbers fs (drop 1 vs)

abbrev pub each_words : List Field → List Value → List (List ℕ)
each_words [] vs = []
each_words (f ∷ fs) [] = []
each_words (f ∷ fs) (v ∷ vs) = if is_each_field f then word_in (Some v) ∷ each_words fs vs else each_words fs vs
