use Rattle.std.proofs.Common.{◌≡◌, replicate}
use Rattle.cx_graph.proofs.marks.Marks.new.Given as goal

abbrev pub invariant-loop-node : goal.invariant-loop-node
invariant-loop-node l = l.values.items ≡ replicate l._node 0
