use Rattle.std.proofs.Common.{◌≡◌, ◌+◌}
use Rattle.cx_mutex.specs.Mutexes.{IsMutexPass, IsBare}
use Rattle.cx_loops.proofs.mutexes.lock_often.Given as goal

abbrev pub invariant-loop-done : goal.invariant-loop-done
invariant-loop-done g l = IsMutexPass l.mutex l.pass × IsBare l.mutex l.pass × (l.pass.left + (l.done + l.done) ≡ l.fn.pass.left)
