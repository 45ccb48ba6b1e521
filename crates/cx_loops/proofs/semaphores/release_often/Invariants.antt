use Rattle.std.proofs.Common.{◌≡◌, ◌+◌}
use Rattle.cx_sync.specs.Sync.{IsSemaphorePass}
use Rattle.cx_loops.proofs.semaphores.release_often.Given as goal

abbrev pub invariant-loop-i : goal.invariant-loop-i
invariant-loop-i g l = IsSemaphorePass l.semaphore l.pass × (l.pass.left + (l.i + l.i) ≡ l.fn.pass.left)
