use Rattle.cx_history.specs.Views.{recorded_of}
use Rattle.cx_graph.specs.Graph.{Adds, ArcOf}
use Rattle.cx_order.specs.Arcs.{OneMainArc}
use Rattle.cx_order.proofs.linking.link_main.Given as goal

abbrev pub invariant-loop-i : goal.invariant-loop-i
invariant-loop-i l = Adds l.fn.graph.nodes.items l.graph.nodes.items (ArcOf (OneMainArc (recorded_of l.parts.record.now)) l.i)
