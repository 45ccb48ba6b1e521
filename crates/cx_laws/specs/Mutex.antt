-- A mutex in the standard's words [thread.mutex.requirements.mutex, thread.mutex.recursive].
use Rattle.std.specs.Prelude.{◌≡◌, ℕ, ◌+◌, ◌<◌, ◌≤◌, ◌&&◌, Bool, true, false, List, ◌∷◌, ◌++◌}
use Rattle.cx_machine.specs.declared.kind.Kind.TheVariants as kinds
use Rattle.cx_machine.specs.declared.kind.Entry.{Entry}
use Rattle.cx_machine.specs.declared.kind.Op.{Op}
use Rattle.cx_machine.specs.declared.kind.Op.TheVariants as ops
use Rattle.cx_machine.specs.Machine.{IsLegal}
use Rattle.cx_laws.specs.History.{count, is_by}

abbrev pub is_lock : Op → Bool
is_lock ops.Lock = true
is_lock ops.TryLock = true
is_lock _ = false

abbrev pub is_unlock : Op → Bool
is_unlock ops.Unlock = true
is_unlock _ = false

abbrev pub is_write : Op → Bool
is_write ops.Set = true
is_write ops.Add = true
is_write _ = false

-- the thread locks, or unlocks
abbrev pub locks : ℕ → Entry → Bool
locks t e = is_lock e.op && is_by t e

abbrev pub unlocks : ℕ → Entry → Bool
unlocks t e = is_unlock e.op && is_by t e

-- a thread that has locked more often than it has unlocked owns the mutex
abbrev pub Owns : ℕ → List Entry → Type 0
Owns t h = count (unlocks t) h < count (locks t) h

-- NO TWO THREADS OWN A MUTEX
abbrev pub OneOwner : Type 0
OneOwner = (recursive : Bool) (numbers : ℕ) (h : List Entry) (t u : ℕ) → IsLegal (kinds.Mutex recursive numbers) h → Owns t h → Owns u h → t ≡ u

-- a thread unlocks only what it has locked
abbrev pub OwnersUnlock : Type 0
OwnersUnlock = (recursive : Bool) (numbers : ℕ) (h : List Entry) (t : ℕ) → IsLegal (kinds.Mutex recursive numbers) h → count (unlocks t) h ≤ count (locks t) h

-- a thread that owns a plain mutex doesn't lock it again
abbrev pub PlainIsOwnedOnce : Type 0
PlainIsOwnedOnce = (numbers : ℕ) (h : List Entry) (t : ℕ) → IsLegal (kinds.Mutex false numbers) h → count (locks t) h ≤ count (unlocks t) h + 1

-- and of a recursive one it has at most 1,000 levels
abbrev pub LevelsAreFew : Type 0
LevelsAreFew = (recursive : Bool) (numbers : ℕ) (h : List Entry) (t : ℕ) → IsLegal (kinds.Mutex recursive numbers) h → count (locks t) h ≤ count (unlocks t) h + 1000

-- the numbers that a mutex guards are written by its owner alone
abbrev pub OwnersWrite : Type 0
OwnersWrite = (recursive : Bool) (numbers : ℕ) (before rest : List Entry) (e : Entry) → IsLegal (kinds.Mutex recursive numbers) (before ++ e ∷ rest) → is_write e.op ≡ true → Owns e.by.0 before
