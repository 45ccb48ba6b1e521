-- Races between accesses to plain variables.
use Rattle.std.specs.Prelude.{◌≡◌, ◌⊎◌, ℕ, ◌<◌, ◌≤◌, ◌==◌, ◌&&◌, ◌||◌, not, Bool, true, false, IsTrue, List, length, slice_get, Option, Some, None}
use Rattle.cx_scene.specs.Scene.{Scene}
use Rattle.cx_history.specs.Histories.{Recorded}
use Rattle.cx_order.specs.Points.{Point, point, IsPoint}
use Rattle.cx_order.specs.Edges.{Reaches}
use Rattle.cx_races.specs.declared.access.Access.{Access}
use Rattle.cx_races.specs.declared.reporting.Pair.{Pair}

-- an access stands right before the item of its point
abbrev pub at : Access → Point
at a = point a.thread.0 a.point

-- to one variable, by two threads, one of them a write
abbrev pub may_race : Access → Access → Bool
may_race a b = (a.var == b.var) && (not (a.thread.0 == b.thread.0) && (a.write || b.write))

-- neither point reaches the other
abbrev pub AreUnordered : Scene → Recorded → Point → Point → Type 0
AreUnordered s r p q = (Reaches s r p q → ⊥) × (Reaches s r q p → ⊥)

-- TWO ACCESSES RACE
pub record Races (s : Scene) (r : Recorded) (a b : Access) : Type 0 where
  pub conflict : IsTrue (may_race a b)
  pub unordered : AreUnordered s r (at a) (at b)

-- the accesses of these numbers race, the first in order of lines named first
pub record RacingPair (s : Scene) (r : Recorded) (as_ : List Access) (v i j : ℕ) : Type 0 where
  pub first : Access
  pub second : Access
  pub at_first : slice_get as_ i ≡ Some first
  pub at_second : slice_get as_ j ≡ Some second
  pub in_order : i < j
  pub of_variable : first.var ≡ v
  pub race : Races s r first second

-- the pair of least first number, and of those of least second number
pub record IsLeastPair (s : Scene) (r : Recorded) (as_ : List Access) (v i j : ℕ) : Type 0 where
  pub pair : RacingPair s r as_ v i j
  pub is_least : (k l : ℕ) → RacingPair s r as_ v k l → (i < k) ⊎ ((i ≡ k) × (j ≤ l))

-- what a report says of variable v: that its accesses are free of races, or the least pair
abbrev pub SaysOf : Scene → Recorded → List Access → ℕ → Option Pair → Type 0
SaysOf s r as_ v None = (i j : ℕ) → RacingPair s r as_ v i j → ⊥
SaysOf s r as_ v (Some p) = IsLeastPair s r as_ v p.first p.second

-- A REPORT HAS ONE ENTRY FOR EACH VARIABLE
pub record IsReport (s : Scene) (r : Recorded) (as_ : List Access) (variables : ℕ) (entries : List (Option Pair)) : Type 0 where
  pub count : length entries ≡ variables
  pub each : (v : ℕ) (e : Option Pair) → slice_get entries v ≡ Some e → SaysOf s r as_ v e

-- each access has a point of the record
abbrev pub AreAccesses : Recorded → List Access → Type 0
AreAccesses r as_ = (k : ℕ) (a : Access) → slice_get as_ k ≡ Some a → IsPoint r (at a)

-- the least access behind access i that races with it, if any
abbrev pub IsPartner : Scene → Recorded → List Access → ℕ → ℕ → Option ℕ → Type 0
IsPartner s r as_ v i (Some j) = RacingPair s r as_ v i j × ((k : ℕ) → RacingPair s r as_ v i k → j ≤ k)
IsPartner s r as_ v i None = (k : ℕ) → RacingPair s r as_ v i k → ⊥

-- whether an entry is there and has no pair
abbrev pub is_open : Option (Option Pair) → Bool
is_open (Some None) = true
is_open _ = false

-- no access below this one has a partner
abbrev pub NoneBefore : Scene → Recorded → List Access → ℕ → ℕ → Type 0
NoneBefore s r as_ v i = (k l : ℕ) → k < i → RacingPair s r as_ v k l → ⊥

-- what an entry says once the accesses below i are looked at
abbrev pub SaysTo : Scene → Recorded → List Access → ℕ → ℕ → Option Pair → Type 0
SaysTo s r as_ v i None = NoneBefore s r as_ v i
SaysTo s r as_ v i (Some p) = IsLeastPair s r as_ v p.first p.second

abbrev pub SaysSoFar : Scene → Recorded → List Access → ℕ → List (Option Pair) → Type 0
SaysSoFar s r as_ i entries = (v : ℕ) (e : Option Pair) → slice_get entries v ≡ Some e → SaysTo s r as_ v i e
