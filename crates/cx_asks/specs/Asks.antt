-- What each kind of object may be asked, by what the thread holds of it.
use Rattle.std.specs.Prelude.{ℕ, zero, suc, ◌^◌, ◌<◌, ◌≤◌, ℤ, pos, Bool, true, false, Option, Some, None}
use Rattle.cx_machine.specs.declared.kind.Kind.{Kind}
use Rattle.cx_machine.specs.declared.kind.Kind.TheVariants as kinds
use Rattle.cx_machine.specs.declared.kind.Op.{Op}
use Rattle.cx_machine.specs.declared.kind.Op.TheVariants as ops
use Rattle.cx_items.specs.declared.kept.Kept.{Kept}
use Rattle.cx_asks.specs.declared.ask.Ask.{Ask}

-- a plain mutex, which the thread owns so often: it is locked by a thread that doesn't own it, and unlocked by its owner
abbrev pub asks_mutex : ℕ → Option Op → Option Op → ℤ → ℤ → Type 0
asks_mutex zero (Some ops.Lock) None (pos zero) (pos zero) = Unit {0}
asks_mutex zero (Some ops.TryLock) (Some ops.TryLock) (pos zero) (pos zero) = Unit {0}
asks_mutex (suc n) (Some ops.Unlock) None (pos zero) (pos zero) = Unit {0}
asks_mutex _ _ _ _ _ = ⊥

-- a recursive mutex, at so many levels: its owner may lock it once more, or learn that it has the most levels
abbrev pub asks_recursive : ℕ → Option Op → Option Op → ℤ → ℤ → Type 0
asks_recursive n (Some ops.Lock) (Some ops.Lock) (pos zero) (pos zero) = Unit {0}
asks_recursive n (Some ops.TryLock) (Some ops.TryLock) (pos zero) (pos zero) = Unit {0}
asks_recursive (suc n) (Some ops.Unlock) None (pos zero) (pos zero) = Unit {0}
asks_recursive _ _ _ _ _ = ⊥

-- a semaphore
abbrev pub asks_semaphore : Option Op → Option Op → ℤ → ℤ → Type 0
asks_semaphore (Some ops.Release) (Some ops.Release) (pos n) (pos zero) = n ≤ 65535
asks_semaphore (Some ops.Acquire) None (pos zero) (pos zero) = Unit {0}
asks_semaphore (Some ops.TryAcquire) (Some ops.TryAcquire) (pos zero) (pos zero) = Unit {0}
asks_semaphore _ _ _ _ = ⊥

-- a latch, of whose counter the thread has a share: what is counted down is part of it
abbrev pub asks_latch : ℕ → Option Op → Option Op → ℤ → ℤ → Type 0
asks_latch share (Some ops.CountDown) None (pos n) (pos zero) = (n ≤ 65535) × (n ≤ share)
asks_latch share None (Some ops.Wait) (pos zero) (pos zero) = Unit {0}
asks_latch share None (Some ops.TryWait) (pos zero) (pos zero) = Unit {0}
asks_latch _ _ _ _ _ = ⊥

-- a shared mutex, which the thread owns so often alone, or shares: it is locked either way by a thread that does neither
abbrev pub asks_shared : ℕ → Bool → Option Op → Option Op → ℤ → ℤ → Type 0
asks_shared zero false (Some ops.Lock) None (pos zero) (pos zero) = Unit {0}
asks_shared zero false (Some ops.TryLock) (Some ops.TryLock) (pos zero) (pos zero) = Unit {0}
asks_shared zero false (Some ops.LockShared) None (pos zero) (pos zero) = Unit {0}
asks_shared zero false (Some ops.TryLockShared) (Some ops.TryLockShared) (pos zero) (pos zero) = Unit {0}
asks_shared (suc n) reads (Some ops.Unlock) None (pos zero) (pos zero) = Unit {0}
asks_shared n true (Some ops.UnlockShared) None (pos zero) (pos zero) = Unit {0}
asks_shared _ _ _ _ _ _ = ⊥

-- a once flag: its function begins or was called before; where it began, it returns, or throws this exception
abbrev pub asks_once : Option Op → Option Op → ℤ → ℤ → Type 0
asks_once (Some ops.Begin) (Some ops.Passive) (pos zero) (pos zero) = Unit {0}
asks_once (Some ops.Finish) None (pos zero) (pos zero) = Unit {0}
asks_once (Some ops.Fail) None (pos e) (pos zero) = e < 2 ^ 32
asks_once _ _ _ _ = ⊥

-- a barrier: so many arrive at once, or one that is dropped; its phase is completed; the end of a phase is waited for
abbrev pub asks_barrier : Option Op → Option Op → ℤ → ℤ → Type 0
asks_barrier (Some ops.Arrive) (Some ops.Arrive) (pos n) (pos zero) = (1 ≤ n) × (n ≤ 4096)
asks_barrier (Some ops.Drop) (Some ops.Drop) (pos zero) (pos zero) = Unit {0}
asks_barrier (Some ops.Complete) None (pos zero) (pos zero) = Unit {0}
asks_barrier None (Some ops.Wait) phase (pos zero) = Unit {0}
asks_barrier _ _ _ _ = ⊥

-- an object of this kind, of which the thread keeps this and has this share, may be asked this
abbrev pub serves : Kind → Kept → ℕ → Ask → Type 0
serves (kinds.Mutex false numbers) h share k = asks_mutex h.levels k.change k.look k.a k.b
serves (kinds.Mutex true numbers) h share k = asks_recursive h.levels k.change k.look k.a k.b
serves (kinds.Semaphore count max) h share k = asks_semaphore k.change k.look k.a k.b
serves (kinds.Latch count) h share k = asks_latch share k.change k.look k.a k.b
serves kinds.Shared h share k = asks_shared h.levels h.reads k.change k.look k.a k.b
serves (kinds.Barrier count) h share k = asks_barrier k.change k.look k.a k.b
serves kinds.Once h share k = asks_once k.change k.look k.a k.b
serves _ h share k = ⊥
