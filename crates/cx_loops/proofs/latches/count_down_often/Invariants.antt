use Rattle.std.proofs.Common.{◌≡◌, ◌+◌}
use Rattle.cx_sync.specs.Sync.{IsLatchPass}
use Rattle.cx_loops.proofs.latches.count_down_often.Given as goal

abbrev pub invariant-loop-done : goal.invariant-loop-done
invariant-loop-done g l = IsLatchPass l.latch l.pass × (l.pass.left + l.done ≡ l.fn.pass.left) × (l.pass.share + l.done ≡ l.fn.pass.share)
