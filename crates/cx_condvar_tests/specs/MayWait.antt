-- What a thread that waits may do with the passes that it is given.
use Rattle.std.specs.Prelude.{◌≡◌, ◌≤◌}
use Rattle.cx_machine.specs.Condition as condition
use Rattle.cx_machine.specs.Mutex as mutex
use Rattle.cx_machine.specs.Shared as shared
use Rattle.cx_turn.specs.declared.pass.Pass.{Pass}
use Rattle.cx_mutex.specs.declared.mutex.Mutex.{Mutex}
use Rattle.cx_mutex.specs.Mutexes.{IsMutexPass, IsBare}
use Rattle.cx_shared_mutex.specs.declared.shared_mutex.SharedMutex.{SharedMutex}
use Rattle.cx_shared_mutex.specs.SharedMutexes.{IsSharedPass, IsBare as IsBareShared}
use Rattle.cx_condvar.specs.declared.condvar.CondvarAny.{CondvarAny}
use Rattle.cx_condvar.specs.Condvars.{IsCondPass, IsOut}

-- it may wait once
abbrev pub MayEnter : CondvarAny → Pass condition.Condition → Type 0
MayEnter c p = IsCondPass c p × IsOut c p × (2 ≤ p.left)

-- it may wait once over the mutex, which it is to lock first
abbrev pub MayWait : CondvarAny → Pass condition.Condition → Mutex → Pass mutex.Mutex → Type 0
MayWait c p m k = MayEnter c p × IsMutexPass m k × IsBare m k × (4 ≤ k.left)

abbrev pub MayWaitShared : CondvarAny → Pass condition.Condition → SharedMutex → Pass shared.Shared → Type 0
MayWaitShared c p m k = MayEnter c p × IsSharedPass m k × IsBareShared m k × (4 ≤ k.left)

-- it may hand over, by a mutex with a number, a condition that it waits for, and one that it notifies
abbrev pub MayHand : Mutex → Pass mutex.Mutex → CondvarAny → Pass condition.Condition → CondvarAny → Pass condition.Condition → Type 0
MayHand m k c p d q = (IsMutexPass m k × IsBare m k) × (IsCondPass c p × IsOut c p) × IsCondPass d q × (m.numbers ≡ 1)
