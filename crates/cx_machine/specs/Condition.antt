-- A condition variable [thread.condition]: who waits, in the order of entering, and who was notified.
use Rattle.std.specs.Prelude.{ℕ, zero, ◌==◌, ◌||◌, not, ℤ, pos, Bool, false, List, [], ◌∷◌, ◌++◌, length, Option, Some, None}
use Rattle.cx_names.specs.Replies.{int_eq}
use Rattle.cx_names.specs.declared.Reply.{Reply}
use Rattle.cx_names.specs.declared.Reply.TheVariants as replies
use Rattle.cx_machine.specs.declared.kind.Op.{Op}
use Rattle.cx_machine.specs.declared.kind.Op.TheVariants as ops
use Rattle.cx_machine.specs.Words.{when, has, without}

pub record Condition : Type 0 where
  pub waiting : List ℕ
  pub notified : List ℕ

abbrev pub opening : Condition
opening = record { waiting = []; notified = [] }

-- in neither set
abbrev pub is_away : Condition → ℕ → Bool
is_away c by = not (has c.waiting by || has c.notified by)

abbrev pub entered : Condition → ℕ → Condition
entered c by = record c { waiting = c.waiting ++ by ∷ [] }

abbrev pub moved : Condition → ℕ → Condition
moved c t = record { waiting = without c.waiting t; notified = c.notified ++ t ∷ [] }

abbrev pub all_moved : Condition → Condition
all_moved c = record { waiting = []; notified = c.notified ++ c.waiting }

abbrev pub unblocked : Condition → ℕ → Condition
unblocked c by = record c { notified = without c.notified by }

abbrev pub withdrawn : Condition → ℕ → Condition
withdrawn c by = record c { waiting = without c.waiting by }

-- change: needs, then
abbrev pub step : Condition → ℕ → Op → Option ℕ → ℤ → Reply → Option Condition
step c by ops.Enter (Some zero) (pos zero) replies.Ok = when (is_away c by) (entered c by)
step c by ops.NotifyOne (Some zero) (pos zero) (replies.Thread t) = when (has c.waiting t.0) (moved c t.0)
step c by ops.NotifyOne (Some zero) (pos zero) replies.Nobody = when (length c.waiting == 0) c
step c by ops.NotifyAll (Some zero) (pos zero) (replies.Number k) = when (int_eq k (pos (length c.waiting))) (all_moved c)
step c by ops.Unblock (Some zero) (pos zero) replies.Ok = when (has c.notified by) (unblocked c by)
step c by ops.Withdraw (Some zero) (pos zero) replies.Ok = when (has c.waiting by) (withdrawn c by)
step c by _ _ _ _ = None

-- look: shown where
abbrev pub shows : Condition → ℕ → Op → Option ℕ → ℤ → Reply → Bool
shows c by _ _ _ _ = false
