use Rattle.std.proofs.Common.{◌≡◌, ◌+◌, map, length}
use Rattle.cx_history.specs.Histories.{in_order}
use Rattle.cx_history.specs.Flaw.{gap_from}
use Rattle.cx_checker.specs.Views.{placed_of}
use Rattle.cx_checker.proofs.Levels.{rest}
use Rattle.cx_checker.proofs.placing.gap.Given as goal

abbrev pub invariant-loop-k : goal.invariant-loop-k
invariant-loop-k l = record {
  same : gap_from 0 (in_order (map placed_of l.changes)) ≡ gap_from l.k (rest l.k (map placed_of l.changes));
  left : l.k + length (rest l.k (map placed_of l.changes)) ≡ length (map placed_of l.changes);
}
