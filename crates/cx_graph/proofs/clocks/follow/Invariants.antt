use Rattle.cx_graph.specs.Marks.{Searching, left}
use Rattle.cx_graph.proofs.clocks.follow.Given as goal

abbrev pub invariant-loop-a : goal.invariant-loop-a
invariant-loop-a l = Searching l.graph.nodes.items l.first l.count l.low l.marks

abbrev pub decreases-loop-a : goal.decreases-loop-a
decreases-loop-a l = left l.marks
