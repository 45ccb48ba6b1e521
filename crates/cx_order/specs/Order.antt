-- What an order says.
use Rattle.std.specs.Prelude.{◌≡◌, ℕ, ◌+◌, Bool, false, List, slice_get, slice_index, Option, Some, None, nat_lt}
use Rattle.cx_scene.specs.Scene.{Scene}
use Rattle.cx_history.specs.Histories.{Recorded}
use Rattle.cx_order.specs.declared.clocks.Clock.{Clock}
use Rattle.cx_order.specs.declared.ordered.Order.{Order}
use Rattle.cx_order.specs.declared.ordered.Ordered.{Ordered}
use Rattle.cx_order.specs.declared.ordered.Ordered.TheVariants as ordered
use Rattle.cx_order.specs.Points.{point, IsPoint}
use Rattle.cx_order.specs.Edges.{Reaches, Tells, HasNoCycle, IsFirstCycle}

abbrev pub past_at : Option ℕ → Option Clock → ℕ → ℕ → Bool
past_at None c i j = false
past_at (Some first) None i j = false
past_at (Some first) (Some c) i j = nat_lt i (slice_index c.values.items (first + j))

-- whether it says that point i of thread t reaches point j of thread u
abbrev pub before_in : Order → ℕ → ℕ → ℕ → ℕ → Bool
before_in o t i u j = past_at (slice_get o.firsts.items u) (slice_get o.clocks.items t) i j

-- IT SAYS SO OF TWO POINTS EXACTLY WHERE THE FIRST REACHES THE SECOND
pub record IsOrderOf (s : Scene) (r : Recorded) (o : Order) : Type 0 where
  pub tells : (t i u j : ℕ) → IsPoint r (point t i) → IsPoint r (point u j) → Tells (before_in o t i u j) (Reaches s r (point t i) (point u j))

-- the order of a record, where no point reaches itself, or the least point that does
abbrev pub IsOrdered : Scene → Recorded → Ordered → Type 0
IsOrdered s r (ordered.Order o) = IsOrderOf s r o × HasNoCycle s r
IsOrdered s r (ordered.Cycle t i) = IsFirstCycle s r (point t.0 i)
