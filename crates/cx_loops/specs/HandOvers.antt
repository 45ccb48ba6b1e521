-- What a thread that hands over may do with the passes that it is given.
use Rattle.std.specs.Prelude.{◌<◌}
use Rattle.cx_machine.specs.Condition as condition
use Rattle.cx_machine.specs.Mutex as machine
use Rattle.cx_turn.specs.declared.pass.Pass.{Pass}
use Rattle.cx_mutex.specs.declared.mutex.Mutex.{Mutex}
use Rattle.cx_mutex.specs.Mutexes.{IsMutexPass, IsBare}
use Rattle.cx_condvar.specs.declared.condvar.CondvarAny.{CondvarAny}
use Rattle.cx_condvar.specs.Condvars.{IsCondPass, IsOut}

-- it may lock the mutex, which guards a number, wait for the first condition, and notify the second
abbrev pub MayHandOver : Mutex → Pass machine.Mutex → CondvarAny → Pass condition.Condition → CondvarAny → Pass condition.Condition → Type 0
MayHandOver m k c p d q = (IsMutexPass m k × IsBare m k) × (0 < m.numbers) × (IsCondPass c p × IsOut c p) × IsCondPass d q
