-- What a thread of a loop may do with the passes that it is given.
use Rattle.std.specs.Prelude.{ℕ, ◌+◌, ◌≤◌}
use Rattle.cx_machine.specs.Latch as latch
use Rattle.cx_machine.specs.Mutex as mutex
use Rattle.cx_machine.specs.Semaphore as semaphore
use Rattle.cx_turn.specs.declared.pass.Pass.{Pass}
use Rattle.cx_mutex.specs.declared.mutex.Mutex.{Mutex}
use Rattle.cx_mutex.specs.Mutexes.{IsMutexPass, IsBare}
use Rattle.cx_sync.specs.declared.latch.Latch.{Latch}
use Rattle.cx_sync.specs.declared.semaphore.Semaphore.{Semaphore}
use Rattle.cx_sync.specs.Sync.{IsLatchPass, IsSemaphorePass}

-- it may lock and unlock the mutex so often
abbrev pub MayRace : Mutex → Pass mutex.Mutex → ℕ → Type 0
MayRace m p n = IsMutexPass m p × IsBare m p × (n + n ≤ p.left)

-- it may change the semaphore so often
abbrev pub MayPlay : Semaphore → Pass semaphore.Semaphore → ℕ → Type 0
MayPlay s p n = IsSemaphorePass s p × (n ≤ p.left)

-- it may arrive at the latch at which the threads begin
abbrev pub MayStart : Latch → Pass latch.Latch → Type 0
MayStart l p = IsLatchPass l p × (1 ≤ p.left) × (1 ≤ p.share)
