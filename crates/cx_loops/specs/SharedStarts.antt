-- What a thread of a loop may do with its pass of a shared mutex.
use Rattle.std.specs.Prelude.{ℕ, ◌+◌, ◌≤◌}
use Rattle.cx_machine.specs.Shared as machine
use Rattle.cx_turn.specs.declared.pass.Pass.{Pass}
use Rattle.cx_shared_mutex.specs.declared.shared_mutex.SharedMutex.{SharedMutex}
use Rattle.cx_shared_mutex.specs.SharedMutexes.{IsSharedPass, IsBare}

-- it may share the mutex and leave it so often
abbrev pub MayShare : SharedMutex → Pass machine.Shared → ℕ → Type 0
MayShare m p n = IsSharedPass m p × IsBare m p × (n + n ≤ p.left)
