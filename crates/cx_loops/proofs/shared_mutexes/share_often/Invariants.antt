use Rattle.std.proofs.Common.{◌≡◌, ◌+◌}
use Rattle.cx_shared_mutex.specs.SharedMutexes.{IsSharedPass, IsBare}
use Rattle.cx_loops.proofs.shared_mutexes.share_often.Given as goal

abbrev pub invariant-loop-done : goal.invariant-loop-done
invariant-loop-done g l = IsSharedPass l.mutex l.pass × IsBare l.mutex l.pass × (l.pass.left + (l.done + l.done) ≡ l.fn.pass.left)
