use Rattle.std.proofs.Common.{◌≡◌, ◌+◌, map, length}
use Rattle.cx_machine.specs.Machine.{opening}
use Rattle.cx_checker.specs.Views.{placed_of}
use Rattle.cx_checker.proofs.Levels.{rest}
use Rattle.cx_checker.proofs.Completions.{Walked}
use Rattle.cx_checker.proofs.placing.completions.Given as goal

abbrev pub invariant-loop-k : goal.invariant-loop-k
invariant-loop-k l = record {
  walked : Walked (opening l.fn.kind) l.state (map placed_of l.changes) l.k l.marks.items;
  left : l.k + length (rest l.k (map placed_of l.changes)) ≡ length (map placed_of l.changes);
}
