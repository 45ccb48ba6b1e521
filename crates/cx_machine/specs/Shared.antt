-- A shared mutex [thread.sharedmutex.requirements].
use Rattle.std.specs.Prelude.{ℕ, zero, ◌==◌, ◌&&◌, not, ℤ, pos, Bool, false, List, [], ◌∷◌, ◌++◌, length, Option, Some, None, is_some, is_none}
use Rattle.cx_names.specs.declared.Reply.{Reply}
use Rattle.cx_names.specs.declared.Reply.TheVariants as replies
use Rattle.cx_machine.specs.declared.kind.Op.{Op}
use Rattle.cx_machine.specs.declared.kind.Op.TheVariants as ops
use Rattle.cx_machine.specs.Words.{when, is_thread, has, without}

pub record Shared : Type 0 where
  pub writer : Option ℕ
  pub readers : List ℕ

abbrev pub opening : Shared
opening = record { writer = None; readers = [] }

abbrev pub is_free : Shared → Bool
is_free s = is_none s.writer && (length s.readers == 0)

abbrev pub locked : Shared → ℕ → Shared
locked s by = record s { writer = Some by }

abbrev pub can_read : Shared → ℕ → Bool
can_read s by = is_none s.writer && not (has s.readers by)

abbrev pub read_by : Shared → ℕ → Shared
read_by s by = record s { readers = s.readers ++ by ∷ [] }

abbrev pub unlocked : Shared → Shared
unlocked s = record s { writer = None }

abbrev pub left_by : Shared → ℕ → Shared
left_by s by = record s { readers = without s.readers by }

-- change: needs, then
abbrev pub step : Shared → ℕ → Op → Option ℕ → ℤ → Reply → Option Shared
step s by ops.Lock (Some zero) (pos zero) replies.Ok = when (is_free s) (locked s by)
step s by ops.TryLock (Some zero) (pos zero) replies.True = when (is_free s) (locked s by)
step s by ops.Unlock (Some zero) (pos zero) replies.Ok = when (is_thread s.writer by) (unlocked s)
step s by ops.LockShared (Some zero) (pos zero) replies.Ok = when (can_read s by) (read_by s by)
step s by ops.TryLockShared (Some zero) (pos zero) replies.True = when (can_read s by) (read_by s by)
step s by ops.UnlockShared (Some zero) (pos zero) replies.Ok = when (has s.readers by) (left_by s by)
step s by _ _ _ _ = None

-- look: shown where
abbrev pub shows : Shared → ℕ → Op → Option ℕ → ℤ → Reply → Bool
shows s by ops.TryLock (Some zero) (pos zero) replies.False = not (is_free s)
shows s by ops.TryLockShared (Some zero) (pos zero) replies.False = is_some s.writer
shows s by _ _ _ _ = false
