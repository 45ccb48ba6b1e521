-- A counting semaphore [thread.sema.cnt].
use Rattle.std.specs.Prelude.{ℕ, zero, ◌+◌, ◌-◌, ◌==◌, not, ℤ, pos, Bool, false, Option, Some, None, nat_lt, nat_le}
use Rattle.cx_names.specs.declared.Reply.{Reply}
use Rattle.cx_names.specs.declared.Reply.TheVariants as replies
use Rattle.cx_machine.specs.declared.kind.Op.{Op}
use Rattle.cx_machine.specs.declared.kind.Op.TheVariants as ops
use Rattle.cx_machine.specs.Words.{when}

pub record Semaphore : Type 0 where
  pub counter : ℕ
  pub max : ℕ

abbrev pub opening : ℕ → ℕ → Semaphore
opening count max = record { counter = count; max = max }

abbrev pub can_release : Semaphore → ℕ → Bool
can_release s n = nat_le (s.counter + n) s.max

abbrev pub released : Semaphore → ℕ → Semaphore
released s n = record s { counter = s.counter + n }

abbrev pub can_acquire : Semaphore → Bool
can_acquire s = nat_lt 0 s.counter

abbrev pub acquired : Semaphore → Semaphore
acquired s = record s { counter = s.counter - 1 }

-- change: needs, then
abbrev pub step : Semaphore → ℕ → Op → Option ℕ → ℤ → Reply → Option Semaphore
step s by ops.Release (Some n) (pos zero) replies.Ok = when (can_release s n) (released s n)
step s by ops.Acquire (Some zero) (pos zero) replies.Ok = when (can_acquire s) (acquired s)
step s by ops.TryAcquire (Some zero) (pos zero) replies.True = when (can_acquire s) (acquired s)
step s by _ _ _ _ = None

-- look: shown where
abbrev pub shows : Semaphore → ℕ → Op → Option ℕ → ℤ → Reply → Bool
shows s by ops.Release (Some n) (pos zero) replies.Over = not (can_release s n)
shows s by ops.TryAcquire (Some zero) (pos zero) replies.False = s.counter == 0
shows s by _ _ _ _ = false
