use Rattle.std.proofs.Common.{◌≡◌, ◌+◌}
use Rattle.cx_history.specs.Views.{recorded_of}
use Rattle.cx_history.specs.Histories.{list_of}
use Rattle.cx_graph.specs.Graph.{Adds, ArcOf}
use Rattle.cx_order.specs.Arcs.{OneItemArc, first_of}
use Rattle.cx_order.proofs.linking.link_list.Given as goal

abbrev pub invariant-loop-i : goal.invariant-loop-i
invariant-loop-i l = record {
  target : l.target ≡ first_of (recorded_of l.parts.record.now) l.t + l.i;
  adds : Adds l.fn.graph.nodes.items l.graph.nodes.items (ArcOf (OneItemArc (recorded_of l.parts.record.now) l.parts.hubs.now.gives.items l.parts.base (list_of (recorded_of l.parts.record.now) l.t) (first_of (recorded_of l.parts.record.now) l.t)) l.i);
}
