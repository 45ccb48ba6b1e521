use Rattle.std.proofs.Common.{take}
use Rattle.std.specs.List.{Contains}
use Rattle.cx_graph.specs.Marks.{Spreads}
use Rattle.cx_graph.proofs.marks.Marks.spread.Given as goal

abbrev pub invariant-loop-b : goal.invariant-loop-b
invariant-loop-b l = Spreads l.fn.self l.self (Contains (take l.b-index l.b-items)) l.value
