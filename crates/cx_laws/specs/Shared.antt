-- A shared mutex in the standard's words [thread.sharedmutex.requirements].
use Rattle.std.specs.Prelude.{◌≡◌, ℕ, ◌<◌, ◌≤◌, ◌&&◌, Bool, true, false, List}
use Rattle.cx_machine.specs.declared.kind.Kind.TheVariants as kinds
use Rattle.cx_machine.specs.declared.kind.Entry.{Entry}
use Rattle.cx_machine.specs.declared.kind.Op.{Op}
use Rattle.cx_machine.specs.declared.kind.Op.TheVariants as ops
use Rattle.cx_machine.specs.Machine.{IsLegal}
use Rattle.cx_laws.specs.History.{count, is_by}
use Rattle.cx_laws.specs.Mutex.{Owns, locks, unlocks}

abbrev pub is_lock_shared : Op → Bool
is_lock_shared ops.LockShared = true
is_lock_shared ops.TryLockShared = true
is_lock_shared _ = false

abbrev pub is_unlock_shared : Op → Bool
is_unlock_shared ops.UnlockShared = true
is_unlock_shared _ = false

abbrev pub locks_shared : ℕ → Entry → Bool
locks_shared t e = is_lock_shared e.op && is_by t e

abbrev pub unlocks_shared : ℕ → Entry → Bool
unlocks_shared t e = is_unlock_shared e.op && is_by t e

-- a thread that has locked it shared more often than it has unlocked it so has shared ownership
abbrev pub Shares : ℕ → List Entry → Type 0
Shares t h = count (unlocks_shared t) h < count (locks_shared t) h

-- NO TWO THREADS OWN A SHARED MUTEX EXCLUSIVELY
abbrev pub OneWriter : Type 0
OneWriter = (h : List Entry) (t u : ℕ) → IsLegal kinds.Shared h → Owns t h → Owns u h → t ≡ u

-- WHO OWNS IT EXCLUSIVELY EXCLUDES ALL WHO WOULD SHARE IT
abbrev pub WriterExcludesReaders : Type 0
WriterExcludesReaders = (h : List Entry) (t u : ℕ) → IsLegal kinds.Shared h → Owns t h → Shares u h → ⊥

-- a thread gives up only the ownership that it has
abbrev pub SharedOwnersUnlock : Type 0
SharedOwnersUnlock = (h : List Entry) (t : ℕ) → IsLegal kinds.Shared h → (count (unlocks t) h ≤ count (locks t) h) × (count (unlocks_shared t) h ≤ count (locks_shared t) h)
