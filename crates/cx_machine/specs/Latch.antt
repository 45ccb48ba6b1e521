-- A latch [thread.latch.class].
use Rattle.std.specs.Prelude.{ℕ, zero, ◌-◌, ◌==◌, not, ℤ, pos, Bool, false, Option, Some, None, nat_le}
use Rattle.cx_names.specs.declared.Reply.{Reply}
use Rattle.cx_names.specs.declared.Reply.TheVariants as replies
use Rattle.cx_machine.specs.declared.kind.Op.{Op}
use Rattle.cx_machine.specs.declared.kind.Op.TheVariants as ops
use Rattle.cx_machine.specs.Words.{when}

pub record Latch : Type 0 where
  pub counter : ℕ

abbrev pub opening : ℕ → Latch
opening count = record { counter = count }

abbrev pub counted_down : Latch → ℕ → Latch
counted_down l n = record { counter = l.counter - n }

-- change: needs, then
abbrev pub step : Latch → ℕ → Op → Option ℕ → ℤ → Reply → Option Latch
step l by ops.CountDown (Some n) (pos zero) replies.Ok = when (nat_le n l.counter) (counted_down l n)
step l by _ _ _ _ = None

-- look: shown where
abbrev pub shows : Latch → ℕ → Op → Option ℕ → ℤ → Reply → Bool
shows l by ops.Wait (Some zero) (pos zero) replies.Ok = l.counter == 0
shows l by ops.TryWait (Some zero) (pos zero) replies.True = l.counter == 0
shows l by ops.TryWait (Some zero) (pos zero) replies.False = not (l.counter == 0)
shows l by _ _ _ _ = false
