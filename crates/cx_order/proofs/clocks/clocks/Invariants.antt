use Rattle.std.proofs.Common.{◌≡◌, ℕ, suc, length, Some}
use Rattle.std.specs.Prelude.{slice_get}
use Rattle.cx_history.specs.Histories.{list_of}
use Rattle.cx_history.specs.Views.{recorded_of}
use Rattle.cx_graph.specs.Graph.{IsClock}
use Rattle.cx_order.specs.declared.clocks.Clock.{Clock}
use Rattle.cx_order.specs.Arcs.{first_of}
use Rattle.cx_order.proofs.clocks.clocks.Given as goal

abbrev pub invariant-loop-t : goal.invariant-loop-t
invariant-loop-t l = record {
  count : length l.clocks.items ≡ l.t;
  each : (u : ℕ) (c : Clock) → slice_get l.clocks.items u ≡ Some c → IsClock l.graph.nodes.items (first_of (recorded_of l.parts.record.now) u) (suc (length (list_of (recorded_of l.parts.record.now) u))) c.values.items;
}
