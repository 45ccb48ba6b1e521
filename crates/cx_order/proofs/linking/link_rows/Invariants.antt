use Rattle.cx_history.specs.Views.{recorded_of}
use Rattle.cx_graph.specs.Graph.{Adds, ArcOf}
use Rattle.cx_order.specs.Arcs.{OneRowArc}
use Rattle.cx_order.proofs.linking.link_rows.Given as goal

abbrev pub invariant-loop-k : goal.invariant-loop-k
invariant-loop-k l = Adds l.fn.graph.nodes.items l.graph.nodes.items (ArcOf (OneRowArc (recorded_of l.parts.record.now) l.parts.hubs.now.gives.items l.parts.base l.act.object l.rows l.act.at l.act.a l.target) l.k)
