use Rattle.std.proofs.Common.{◌≤◌}
use Rattle.cx_mutex.specs.Mutexes.{IsMutexPass, IsBare}
use Rattle.cx_condvar.specs.Condvars.{IsCondPass, IsOut}
use Rattle.cx_condvar_tests.proofs.handing.play.Given as goal

abbrev pub invariant-loop-i : goal.invariant-loop-i
invariant-loop-i g l = (IsMutexPass l.mutex l.key × IsBare l.mutex l.key) × (IsCondPass l.mine l.mine_pass × IsOut l.mine l.mine_pass) × IsCondPass l.other l.other_pass × (l.turns.used ≤ 16384)
