-- What a thread has of an object.
use Rattle.std.specs.Prelude.{◌≡◌, ◌+◌, ◌≤◌, ℕ, Bool, is_some, None, MatchOption}
use Rattle.cx_machine.specs.Mutex as machine
use Rattle.cx_machine.specs.Shared as shared
use Rattle.cx_machine.specs.Once as once
use Rattle.cx_machine.specs.Barrier as barrier
use Rattle.cx_machine.specs.Words.{is_thread}
use Rattle.cx_cell.specs.Seen.{At}
use Rattle.cx_sync.specs.declared.once.OnceFlag.{OnceFlag}
use Rattle.cx_sync.specs.Kinds.{executing}
use Rattle.cx_sync.specs.Onces.{IsOncePassWith}
use Rattle.cx_barrier.specs.declared.barrier.Barrier.{Barrier}
use Rattle.cx_barrier.specs.Kinds.{meeting}
use Rattle.cx_barrier.specs.Barriers.{IsBarrierPassWith}
use Rattle.cx_turn.specs.declared.view.View.{View}
use Rattle.cx_turn.specs.declared.pass.Pass.{Pass}
use Rattle.cx_turn.specs.declared.either.Either.{Either}
use Rattle.cx_turn.specs.declared.either.Either.TheVariants as eithers
use Rattle.cx_mutex.specs.declared.mutex.Mutex.{Mutex}
use Rattle.cx_mutex.specs.declared.recursive.RecursiveMutex.{RecursiveMutex}
use Rattle.cx_mutex.specs.Mutexes.{IsMutexPassWith, IsBare, IsHeldBy}
use Rattle.cx_mutex.specs.Recursives.{IsRecursivePassWith, HasLevels}
use Rattle.cx_shared_mutex.specs.declared.shared_mutex.SharedMutex.{SharedMutex}
use Rattle.cx_shared_mutex.specs.SharedMutexes.{IsSharedPassWith, IsBare as IsUnowned, IsHeldBy as IsWrittenBy, IsSharedBy}
use Rattle.cx_kinds.specs.Sights.{IsOfSame}
use Rattle.cx_kinds.specs.declared.shared_mutex.Owned.{Owned}
use Rattle.cx_kinds.specs.declared.shared_mutex.Owned.TheVariants as owns
use Rattle.cx_kinds.specs.declared.shared_mutex.SharedToken.{SharedToken}
use Rattle.cx_kinds.specs.declared.once.OnceToken.{OnceToken}
use Rattle.cx_kinds.specs.declared.barrier.BarrierToken.{BarrierToken}
use Rattle.cx_kinds.specs.declared.mutex.MutexToken.{MutexToken}
use Rattle.cx_kinds.specs.declared.recursive.LevelToken.{LevelToken}

-- an idle pass of the mutex that has seen so much, with the hold where its thread owns the mutex
pub record IsMutexToken (m : Mutex) (k : MutexToken) (v : View machine.Mutex) : Type 0 where
  pub pass : IsMutexPassWith m k.pass v
  pub hold : MatchOption k.hold (IsBare m k.pass) (λ h. IsHeldBy m k.pass h)

-- an idle pass of the recursive mutex that has seen so much, with as many levels as its thread has
pub record IsLevelToken (m : RecursiveMutex) (k : LevelToken) (v : View machine.Mutex) : Type 0 where
  pub pass : IsRecursivePassWith m k.pass v
  pub own : k.levels.by ≡ k.pass.number
  pub levels : HasLevels m k.pass k.levels.count
  pub few : k.levels.count ≤ 1000

-- the thread of the pass owns the shared mutex so
abbrev pub Owns : SharedMutex → Pass shared.Shared → Owned → Type 0
Owns m p owns.Nothing = IsUnowned m p
Owns m p (owns.Alone h) = IsWrittenBy m p h
Owns m p (owns.Along h) = IsSharedBy m p h

-- an idle pass of the shared mutex that has seen so much, with the hold where its thread owns the mutex
pub record IsSharedToken (m : SharedMutex) (k : SharedToken) (v : View shared.Shared) : Type 0 where
  pub pass : IsSharedPassWith m k.pass v
  pub owned : Owns m k.pass k.owned

-- whether an execution of this thread is active
abbrev pub Running : Bool → once.Once → ℕ → Type 0
Running due o n = once.is_active o n ≡ due

-- an idle pass of the once flag that has seen so much, with the active execution of its thread exactly where there is one
pub record IsOnceToken (f : OnceFlag) (k : OnceToken) (v : View once.Once) : Type 0 where
  pub pass : IsOncePassWith f k.pass v
  pub own : MatchOption k.active (Unit {0}) (λ a. a.by ≡ k.pass.number)
  pub running : At executing.step (Running (is_some k.active)) v
  pub opened : v.start ≡ once.Idle

-- whether this thread is to complete the phase
abbrev pub Owing : Bool → barrier.Barrier → ℕ → Type 0
Owing due b n = is_thread b.completing n ≡ due

-- an idle pass of the barrier that has seen so much, with the phase that its thread is to complete exactly where there is one
pub record IsBarrierToken (b : Barrier) (k : BarrierToken) (v : View barrier.Barrier) : Type 0 where
  pub pass : IsBarrierPassWith b k.pass v
  pub own : MatchOption k.completing (Unit {0}) (λ c. c.by ≡ k.pass.pass.number)
  pub owing : At meeting.step (Owing (is_some k.completing)) v
  pub opened : v.start.completing ≡ None

-- one level more where it was locked
abbrev pub IsLevelled : ℕ → Either → ℕ → Type 0
IsLevelled n (eithers.Made r at_) n' = n' ≡ n + 1
IsLevelled n (eithers.Seen r at_) n' = n' ≡ n

-- the token after it gave so many levels back, each by one change
pub record HasGiven (m : RecursiveMutex) (n : ℕ) (k k' : LevelToken) : Type 0 where
  pub seen : (v : View machine.Mutex) → IsLevelToken m k v → (w : View machine.Mutex) × IsLevelToken m k' w × IsOfSame v w
  pub levels : k'.levels.count + n ≡ k.levels.count
  pub left : k'.pass.left + n ≡ k.pass.left
