use Rattle.cx_graph.specs.Graph.{Adds, ChainArc}
use Rattle.cx_graph.proofs.graph.Graph.link_chain.Given as goal

abbrev pub invariant-loop-i : goal.invariant-loop-i
invariant-loop-i l = Adds l.fn.self.nodes.items l.self.nodes.items (ChainArc l.first l.i)
