use Rattle.std.proofs.Common.{◌≡◌, ◌+◌}
use Rattle.cx_sync.specs.Sync.{IsSemaphorePass}
use Rattle.cx_loops.proofs.semaphores.rally.Given as goal

abbrev pub invariant-loop-i : goal.invariant-loop-i
invariant-loop-i g l = IsSemaphorePass l.out l.out_pass × IsSemaphorePass l.back l.back_pass × (l.out_pass.left + l.i ≡ l.fn.out_pass.left) × (l.back_pass.left + l.i ≡ l.fn.back_pass.left)
