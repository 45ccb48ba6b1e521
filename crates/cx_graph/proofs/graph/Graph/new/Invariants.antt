use Rattle.std.proofs.Common.{◌≡◌, ℕ, [], length}
use Rattle.cx_graph.specs.Graph.{next_of}
use Rattle.cx_graph.proofs.graph.Graph.new.Given as goal

abbrev pub invariant-loop-node : goal.invariant-loop-node
invariant-loop-node l = record {
  count : length l.nodes.items ≡ l._node;
  none : (a : ℕ) → next_of l.nodes.items a ≡ [];
}
