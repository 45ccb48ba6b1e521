use Rattle.std.proofs.Common.{◌≡◌, ◌+◌}
use Rattle.cx_mutex.specs.Mutexes.{IsMutexPass, IsHeldBy}
use Rattle.cx_loops.proofs.conditions.set_often.Given as goal

abbrev pub invariant-loop-done : goal.invariant-loop-done
invariant-loop-done g l = IsMutexPass l.mutex l.key × IsHeldBy l.mutex l.key l.hold × (l.key.left + l.done ≡ l.fn.key.left)
