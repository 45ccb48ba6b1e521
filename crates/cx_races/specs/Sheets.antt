-- Accesses in order of variable, writes before reads, thread and point.
use Rattle.std.specs.Prelude.{◌≡◌, ℕ, ◌+◌, ◌*◌, ◌<◌, ◌≤◌, ◌==◌, ◌||◌, not, Bool, List, slice_get, Some, if◌then◌else◌}
use Rattle.cx_scene.specs.Scene.{Scene}
use Rattle.cx_history.specs.Histories.{Recorded}
use Rattle.cx_order.specs.declared.ordered.Order.{Order}
use Rattle.cx_order.specs.Points.{IsPoint}
use Rattle.cx_order.specs.Order.{IsOrderOf}
use Rattle.cx_races.specs.declared.access.Access.{Access}
use Rattle.cx_races.specs.Races.{at, Races, AreAccesses}

-- the number of a variable's writes, or of its reads
abbrev pub class_of : ℕ → Bool → ℕ
class_of var write = var * 2 + (if write then 0 else 1)

-- a lane: what one thread writes to a variable, or what it reads
abbrev pub lane_of : Access → ℕ
lane_of a = class_of a.var a.write * 4294967296 + a.thread.0

-- where an access stands
abbrev pub rank_of : Access → ℕ
rank_of a = lane_of a * 4294967296 + a.point

-- the numbers of an access are of 32 bits, so that ranks tell lanes apart
pub record IsSmall (a : Access) : Type 0 where
  pub thread : a.thread.0 < 4294967296
  pub point : a.point < 4294967296

abbrev pub AreSmall : List Access → Type 0
AreSmall xs = (k : ℕ) (a : Access) → slice_get xs k ≡ Some a → IsSmall a

-- an access and all others have points of a record of which this is the order
pub record AreOf (s : Scene) (r : Recorded) (o : Order) (a : Access) (xs : List Access) : Type 0 where
  pub order : IsOrderOf s r o
  pub point : IsPoint r (at a)
  pub points : AreAccesses r xs

-- none of these races with an access
abbrev pub NoneRaces : Scene → Recorded → List Access → Access → Type 0
NoneRaces s r xs a = (k : ℕ) (x : Access) → slice_get xs k ≡ Some x → Races s r a x → ⊥

-- none of these in the lane of x does
abbrev pub NoneOfLane : Scene → Recorded → List Access → Access → Access → Type 0
NoneOfLane s r xs a x = (k : ℕ) (y : Access) → slice_get xs k ≡ Some y → lane_of y ≡ lane_of x → Races s r a y → ⊥

-- of the first so many none does
abbrev pub NoneBelow : Scene → Recorded → List Access → Access → ℕ → Type 0
NoneBelow s r xs a n = (k : ℕ) (x : Access) → k < n → slice_get xs k ≡ Some x → Races s r a x → ⊥

-- those of this place and above have no lesser rank
abbrev pub AreFrom : List Access → ℕ → ℕ → Type 0
AreFrom xs n rank = (k : ℕ) (x : Access) → n ≤ k → slice_get xs k ≡ Some x → rank ≤ rank_of x

-- those below this place have a lesser rank
abbrev pub AreBelow : List Access → ℕ → ℕ → Type 0
AreBelow xs n rank = (k : ℕ) (x : Access) → k < n → slice_get xs k ≡ Some x → rank_of x < rank

-- behind an access of another variable, or behind a read where a read is asked for, none can race with access a
abbrev pub is_over : Access → Access → Bool
is_over a x = not (x.var == a.var) || not (a.write || x.write)
