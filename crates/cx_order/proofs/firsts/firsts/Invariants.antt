use Rattle.std.proofs.Common.{◌≡◌, ℕ, ◌<◌, length, Some, map}
use Rattle.std.specs.Prelude.{slice_get}
use Rattle.cx_history.specs.Views.{recorded_of}
use Rattle.cx_order.specs.Arcs.{first_of}
use Rattle.cx_order.proofs.firsts.firsts.Given as goal

abbrev pub invariant-loop-t : goal.invariant-loop-t
invariant-loop-t l = record {
  count : length l.firsts.items ≡ l.t;
  each : (u : ℕ) → u < l.t → slice_get l.firsts.items u ≡ Some (first_of (recorded_of l.record) u);
  next : l.node ≡ first_of (recorded_of l.record) l.t;
}
