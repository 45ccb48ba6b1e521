use Rattle.std.proofs.Common.{◌≤◌}
use Rattle.cx_mutex.specs.Mutexes.{IsMutexPass, IsHeldBy}
use Rattle.cx_condvar.specs.Condvars.{IsCondPass, IsOut}
use Rattle.cx_loops.proofs.conditions.await_number.Given as goal

abbrev pub invariant-loop : goal.invariant-loop
invariant-loop g l = IsMutexPass l.mutex l.key × IsHeldBy l.mutex l.key l.hold × (IsCondPass l.mine l.mine_pass × IsOut l.mine l.mine_pass) × (2 ≤ l.key.left)
