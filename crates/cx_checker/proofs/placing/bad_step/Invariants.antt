use Rattle.std.proofs.Common.{◌≡◌, ◌+◌, map, length, None}
use Rattle.cx_machine.specs.Machine.{opening}
use Rattle.cx_history.specs.Histories.{in_order}
use Rattle.cx_history.specs.Flaw.{gap_from, bad_step_from}
use Rattle.cx_checker.specs.Views.{placed_of}
use Rattle.cx_checker.proofs.Levels.{rest}
use Rattle.cx_checker.proofs.placing.bad_step.Given as goal

abbrev pub invariant-loop-k : goal.invariant-loop-k
invariant-loop-k l = record {
  same : bad_step_from (opening l.fn.kind) (in_order (map placed_of l.changes)) ≡ bad_step_from l.state (rest l.k (map placed_of l.changes));
  gapless : gap_from l.k (rest l.k (map placed_of l.changes)) ≡ None;
  left : l.k + length (rest l.k (map placed_of l.changes)) ≡ length (map placed_of l.changes);
}
