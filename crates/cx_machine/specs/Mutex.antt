-- A mutex, plain or recursive [thread.mutex.requirements.mutex, thread.mutex.recursive], and the numbers that it guards.
use Rattle.std.specs.Prelude.{ℕ, zero, ◌+◌, ◌-◌, ◌==◌, ◌&&◌, ◌||◌, not, ℤ, pos, ◌+ℤ◌, Bool, false, List, length, replicate, slice_get, slice_set, Option, Some, None, is_none, nat_lt, nat_le, if◌then◌else◌, option_map}
use Rattle.cx_names.specs.Replies.{int_eq}
use Rattle.cx_names.specs.declared.Reply.{Reply}
use Rattle.cx_names.specs.declared.Reply.TheVariants as replies
use Rattle.cx_machine.specs.declared.kind.Op.{Op}
use Rattle.cx_machine.specs.declared.kind.Op.TheVariants as ops
use Rattle.cx_machine.specs.Words.{fits_i64, holds_number, when, is_thread}

pub record Mutex : Type 0 where
  pub recursive : Bool
  pub owner : Option ℕ
  pub level : ℕ
  pub numbers : List ℤ

-- the levels at which a mutex can be owned
abbrev pub most_levels : Option ℕ → ℕ
most_levels None = 0
most_levels (Some t) = 1000

abbrev pub opening : Bool → ℕ → Mutex
opening recursive numbers = record { recursive = recursive; owner = None; level = 0; numbers = replicate numbers (pos 0) }

abbrev pub owns : Mutex → ℕ → Bool
owns m by = is_thread m.owner by

-- at how many levels this thread owns it
abbrev pub levels_of : Mutex → ℕ → ℕ
levels_of m by = if owns m by then m.level else 0

abbrev pub can_lock : Mutex → ℕ → Bool
can_lock m by = is_none m.owner || (m.recursive && owns m by && nat_lt m.level 1000)

abbrev pub locked : Mutex → ℕ → Mutex
locked m by = record m { owner = Some by; level = m.level + 1 }

abbrev pub unlocked : Mutex → Mutex
unlocked m = record m { owner = if nat_le m.level 1 then None else m.owner; level = m.level - 1 }

-- number i, where the thread owns the mutex
abbrev pub number_at : Mutex → ℕ → ℕ → Option ℤ
number_at m by i = if owns m by then slice_get m.numbers i else None

-- that number plus v
abbrev pub sum_at : Mutex → ℕ → ℕ → ℤ → Option ℤ
sum_at m by i v = option_map (λ n. n +ℤ v) (number_at m by i)

abbrev pub with_number : Mutex → ℕ → ℤ → Mutex
with_number m i v = record m { numbers = slice_set m.numbers i v }

abbrev pub added : Mutex → ℕ → ℤ → Option ℤ → Option Mutex
added m i r None = None
added m i r (Some sum) = when (int_eq sum r && fits_i64 sum) (with_number m i r)

abbrev pub overflows : Option ℤ → Bool
overflows None = false
overflows (Some sum) = not (fits_i64 sum)

-- change: needs, then
abbrev pub step : Mutex → ℕ → Op → Option ℕ → ℤ → Reply → Option Mutex
step m by ops.Lock (Some zero) (pos zero) replies.Ok = when (can_lock m by) (locked m by)
step m by ops.TryLock (Some zero) (pos zero) replies.True = when (can_lock m by) (locked m by)
step m by ops.Unlock (Some zero) (pos zero) replies.Ok = when (owns m by) (unlocked m)
step m by ops.Set (Some i) v replies.Ok = when (owns m by && nat_lt i (length m.numbers)) (with_number m i v)
step m by ops.Add (Some i) v (replies.Number r) = added m i r (sum_at m by i v)
step m by _ _ _ _ = None

-- look: shown where
abbrev pub shows : Mutex → ℕ → Op → Option ℕ → ℤ → Reply → Bool
shows m by ops.TryLock (Some zero) (pos zero) replies.False = not (can_lock m by)
shows m by ops.Lock (Some zero) (pos zero) replies.MaxLevels = m.recursive && owns m by && (m.level == 1000)
shows m by ops.Get (Some i) (pos zero) (replies.Number v) = owns m by && holds_number (slice_get m.numbers i) v
shows m by ops.Add (Some i) v replies.Overflow = overflows (sum_at m by i v)
shows m by _ _ _ _ = false
