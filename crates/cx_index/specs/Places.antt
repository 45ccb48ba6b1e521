-- Where names stand in a list of names.
use Rattle.std.specs.Prelude.{◌≡◌, ℕ, suc, List, [], ◌∷◌, map, Option, Some, None, if◌then◌else◌}
use Rattle.std.specs.Option.{option_map}
use Rattle.std.specs.Str.{bytes_eq}
use Rattle.std.specs.Global.{Vec}
use Rattle.std.specs.Ordering.{nat_cmp}
use Rattle.std.specs.Cmp.Lexicographic.{slice_cmp}
use Rattle.std.specs.BTreeMap.{BTreeMap, get_by}

-- the place of the first of these names that is equal to it, counted from 0
abbrev pub place_of : List (List ℕ) → List ℕ → Option ℕ
place_of [] name = None
place_of (n ∷ ns) name = if bytes_eq n name then Some 0 else option_map suc (place_of ns name)

-- a map has of each name its first place among these, and nothing of any other
abbrev pub IsIndex : List (Vec ℕ) → BTreeMap (Vec ℕ) ℕ → Type 0
IsIndex names places = (q : List ℕ) → get_by (λ k. slice_cmp nat_cmp q k.items) places ≡ place_of (map (λ n. n.items) names) q
