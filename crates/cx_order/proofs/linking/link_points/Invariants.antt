use Rattle.cx_history.specs.Views.{recorded_of}
use Rattle.cx_graph.specs.Graph.{Adds, ArcOf}
use Rattle.cx_order.specs.Arcs.{NextArc}
use Rattle.cx_order.proofs.linking.link_points.Given as goal

abbrev pub invariant-loop-t : goal.invariant-loop-t
invariant-loop-t l = Adds l.fn.graph.nodes.items l.graph.nodes.items (ArcOf (NextArc (recorded_of l.parts.record.now)) l.t)
