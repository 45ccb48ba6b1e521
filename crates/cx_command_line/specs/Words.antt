-- The numbers among the words of the command line.
use Rattle.std.specs.Prelude.{ℕ, ◌+◌, ◌-◌, ◌*◌, ◌^◌, ◌&&◌, Bool, List, [], ◌∷◌, length, Option, Some, None, nat_lt, nat_le, if◌then◌else◌, option_and_then}
use Rattle.std.specs.List.{list_all}

abbrev pub is_digit : ℕ → Bool
is_digit b = nat_le 48 b && nat_le b 57

-- 1 to 20 decimal digits
abbrev pub is_digits : List ℕ → Bool
is_digits w = nat_lt 0 (length w) && nat_le (length w) 20 && list_all is_digit w

-- the value of digits that stand behind others of this value
abbrev pub digits_from : ℕ → List ℕ → ℕ
digits_from n [] = n
digits_from n (c ∷ cs) = digits_from (n * 10 + (c - 48)) cs

-- a seed: digits whose value fits in 64 bits
unfoldable pub seed_of : List ℕ → Option ℕ
seed_of w = if is_digits w && nat_lt (digits_from 0 w) (2 ^ 64) then Some (digits_from 0 w) else None

-- how many items there may be
abbrev pub in_range : ℕ → Option ℕ
in_range n = if nat_le 1 n && nat_le n 4800 then Some n else None

-- a number of items: digits with a value from 1 to 4,800
abbrev pub items_of : List ℕ → Option ℕ
items_of w = option_and_then in_range (seed_of w)

-- the same number as a seed's read digit by digit, behind digits of this value
unfoldable pub value_from : ℕ → List ℕ → Option ℕ
value_from n [] = Some n
value_from n (c ∷ cs) = if is_digit c && nat_lt (n * 10 + (c - 48)) (2 ^ 64) then value_from (n * 10 + (c - 48)) cs else None
