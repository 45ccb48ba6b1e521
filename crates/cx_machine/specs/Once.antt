-- A once flag [thread.once.callonce].
use Rattle.std.specs.Prelude.{ℕ, zero, ◌==◌, ℤ, pos, Bool, true, false, Option, Some, None}
use Rattle.cx_names.specs.declared.Reply.{Reply}
use Rattle.cx_names.specs.declared.Reply.TheVariants as replies
use Rattle.cx_machine.specs.declared.kind.Op.{Op}
use Rattle.cx_machine.specs.declared.kind.Op.TheVariants as ops
use Rattle.cx_machine.specs.Words.{when}

pub data Once : Type 0 where
  Idle : Once
  Active : ℕ → Once
  Done : Once

abbrev pub is_idle : Once → Bool
is_idle Idle = true
is_idle (Active t) = false
is_idle Done = false

abbrev pub is_active : Once → ℕ → Bool
is_active Idle by = false
is_active (Active t) by = t == by
is_active Done by = false

abbrev pub is_done : Once → Bool
is_done Idle = false
is_done (Active t) = false
is_done Done = true

-- change: needs, then
abbrev pub step : Once → ℕ → Op → Option ℕ → ℤ → Reply → Option Once
step o by ops.Begin (Some zero) (pos zero) replies.Ok = when (is_idle o) (Active by)
step o by ops.Finish (Some zero) (pos zero) replies.Ok = when (is_active o by) Done
step o by ops.Fail (Some e) (pos zero) replies.Ok = when (is_active o by) Idle
step o by _ _ _ _ = None

-- look: shown where
abbrev pub shows : Once → ℕ → Op → Option ℕ → ℤ → Reply → Bool
shows o by ops.Passive (Some zero) (pos zero) replies.Ok = is_done o
shows o by _ _ _ _ = false
