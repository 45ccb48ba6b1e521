-- How many of some numbers are below a bound.
use Rattle.std.specs.Prelude.{ℕ, ◌+◌, List, [], ◌∷◌, nat_lt, if◌then◌else◌}

abbrev pub count_below : ℕ → List ℕ → ℕ
count_below bound [] = 0
count_below bound (n ∷ ns) = (if nat_lt n bound then 1 else 0) + count_below bound ns
