-- A counting semaphore in the standard's words [thread.sema.cnt].
use Rattle.std.specs.Prelude.{◌≡◌, ℕ, ◌+◌, ◌≤◌, Bool, true, false, List}
use Rattle.cx_machine.specs.declared.kind.Kind.TheVariants as kinds
use Rattle.cx_machine.specs.declared.kind.Entry.{Entry}
use Rattle.cx_machine.specs.declared.kind.Look.{Look}
use Rattle.cx_machine.specs.declared.kind.Op.{Op}
use Rattle.cx_machine.specs.declared.kind.Op.TheVariants as ops
use Rattle.cx_machine.specs.Machine.{IsLegal}
use Rattle.cx_laws.specs.History.{count, total, amount_of, IsShownAfter}

abbrev pub is_acquire : Op → Bool
is_acquire ops.Acquire = true
is_acquire ops.TryAcquire = true
is_acquire _ = false

abbrev pub is_release : Op → Bool
is_release ops.Release = true
is_release _ = false

-- what is released, and what is acquired
abbrev pub released : List Entry → ℕ
released h = total (λ e. amount_of (is_release e.op) e) h

abbrev pub acquired : List Entry → ℕ
acquired h = count (λ e. is_acquire e.op) h

-- THE COUNTER IS NEVER BELOW 0: no more is acquired than was there and was released
abbrev pub CounterIsThere : Type 0
CounterIsThere = (desired max : ℕ) (h : List Entry) → IsLegal (kinds.Semaphore desired max) h → acquired h ≤ desired + released h

-- NOR ABOVE ITS GREATEST VALUE
abbrev pub CounterIsWithinMax : Type 0
CounterIsWithinMax = (desired max : ℕ) (h : List Entry) → desired ≤ max → IsLegal (kinds.Semaphore desired max) h → desired + released h ≤ max + acquired h

-- an attempt fails only where the counter is 0
abbrev pub FailsAtZero : Type 0
FailsAtZero = (desired max : ℕ) (h : List Entry) (l : Look) → IsShownAfter (kinds.Semaphore desired max) h l → is_acquire l.op ≡ true → acquired h ≡ desired + released h
