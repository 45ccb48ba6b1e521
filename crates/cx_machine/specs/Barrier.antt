-- A barrier [thread.barrier.class].
use Rattle.std.specs.Prelude.{ℕ, zero, ◌+◌, ◌-◌, ◌^◌, ◌==◌, ◌&&◌, not, ℤ, pos, Bool, false, Option, Some, None, is_none, nat_lt, nat_le, if◌then◌else◌}
use Rattle.cx_names.specs.Replies.{int_eq}
use Rattle.cx_names.specs.declared.Reply.{Reply}
use Rattle.cx_names.specs.declared.Reply.TheVariants as replies
use Rattle.cx_machine.specs.declared.kind.Op.{Op}
use Rattle.cx_machine.specs.declared.kind.Op.TheVariants as ops
use Rattle.cx_machine.specs.Words.{when, is_thread}

pub record Barrier : Type 0 where
  pub phase : ℕ
  pub remaining : ℕ
  pub initial : ℕ
  pub completing : Option ℕ

abbrev pub opening : ℕ → Barrier
opening count = record { phase = 0; remaining = count; initial = count; completing = None }

-- n arrivals are expected now
abbrev pub can_arrive : Barrier → ℕ → Bool
can_arrive b n = is_none b.completing && nat_le n b.remaining

-- the last arrival completes
abbrev pub arrived : Barrier → ℕ → ℕ → Barrier
arrived b by n = record b { remaining = b.remaining - n; completing = if b.remaining - n == 0 then Some by else None }

abbrev pub dropped : Barrier → ℕ → Barrier
dropped b by = record (arrived b by 1) { initial = b.initial - 1 }

abbrev pub completed : Barrier → Barrier
completed b = record { phase = b.phase + 1; remaining = b.initial; initial = b.initial; completing = None }

-- change: needs, then
abbrev pub step : Barrier → ℕ → Op → Option ℕ → ℤ → Reply → Option Barrier
step b by ops.Arrive (Some n) (pos zero) (replies.Number p) = when (nat_le 1 n && can_arrive b n && int_eq p (pos b.phase)) (arrived b by n)
step b by ops.Drop (Some zero) (pos zero) (replies.Number p) = when (can_arrive b 1 && int_eq p (pos b.phase)) (dropped b by)
step b by ops.Complete (Some zero) (pos zero) replies.Ok = when (is_thread b.completing by && nat_lt b.phase (2 ^ 32 - 1)) (completed b)
step b by _ _ _ _ = None

-- look: shown where
abbrev pub shows : Barrier → ℕ → Op → Option ℕ → ℤ → Reply → Bool
shows b by ops.Arrive (Some n) (pos zero) replies.OverExpected = not (can_arrive b n)
shows b by ops.Drop (Some zero) (pos zero) replies.OverExpected = not (can_arrive b 1)
shows b by ops.Wait (Some p) (pos zero) replies.Ok = nat_lt p b.phase
shows b by _ _ _ _ = false
