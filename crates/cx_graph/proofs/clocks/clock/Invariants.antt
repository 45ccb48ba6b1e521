use Rattle.cx_graph.specs.Marks.{Searched}
use Rattle.cx_graph.proofs.clocks.clock.Given as goal

abbrev pub invariant-loop-i : goal.invariant-loop-i
invariant-loop-i l = Searched l.graph.nodes.items l.first l.count l.i l.marks
