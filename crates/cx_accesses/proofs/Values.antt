-- A word is a number of a table's field where it's 1 to 20 digits.
use Rattle.std.proofs.Common.{◌≡◌, ℕ, ℤ, List, Option, Some, None, refl, option_map}
use Rattle.cx_text.specs.declared.form.Field.TheVariants as fields
use Rattle.cx_text.specs.Words.{ANumber, natural_of, value_of}
use Rattle.cx_accesses.specs.AccessesSeen.{number_in}

back : (x : Option ℤ) → number_in (option_map ANumber x) ≡ x
back None = refl
back (Some n) = refl

pub natural_is : (own w : List ℕ) → number_in (value_of 1 own (fields.Number 0 0) w) ≡ natural_of w
unfolding value_of
natural_is own w = back (natural_of w)
