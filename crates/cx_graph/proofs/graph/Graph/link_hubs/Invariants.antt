use Rattle.cx_graph.specs.Graph.{Adds, ArcOf}
use Rattle.cx_graph.specs.Hubs.{HubArcs}
use Rattle.cx_graph.proofs.graph.Graph.link_hubs.Given as goal

abbrev pub invariant-loop-x : goal.invariant-loop-x
invariant-loop-x l = Adds l.fn.self.nodes.items l.self.nodes.items (ArcOf (HubArcs l.hubs.gives.items l.base) l.x)
