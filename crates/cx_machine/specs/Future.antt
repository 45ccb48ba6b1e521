-- The shared state of a future [futures.state].
use Rattle.std.specs.Prelude.{ℕ, zero, ◌==◌, ◌||◌, ℤ, pos, Bool, true, false, Option, Some, None}
use Rattle.cx_names.specs.Replies.{reply_eq}
use Rattle.cx_names.specs.declared.Outcome.{Outcome}
use Rattle.cx_names.specs.declared.Reply.{Reply}
use Rattle.cx_names.specs.declared.Reply.TheVariants as replies
use Rattle.cx_machine.specs.declared.kind.Op.{Op}
use Rattle.cx_machine.specs.declared.kind.Op.TheVariants as ops
use Rattle.cx_machine.specs.Words.{outcome_of, when}

pub data Future : Type 0 where
  Fresh : Future
  Deferred : Future
  Running : ℕ → Future
  Ready : Outcome → Future

abbrev pub is_fresh : Future → Bool
is_fresh Fresh = true
is_fresh Deferred = false
is_fresh (Running t) = false
is_fresh (Ready o) = false

abbrev pub is_deferred : Future → Bool
is_deferred Fresh = false
is_deferred Deferred = true
is_deferred (Running t) = false
is_deferred (Ready o) = false

abbrev pub runs : Future → ℕ → Bool
runs Fresh by = false
runs Deferred by = false
runs (Running t) by = t == by
runs (Ready o) by = false

-- ready with the outcome of these words
abbrev pub set : Bool → Option Outcome → Option Future
set can None = None
set can (Some o) = when can (Ready o)

abbrev pub is_ready : Future → Reply → Bool
is_ready Fresh r = false
is_ready Deferred r = false
is_ready (Running t) r = false
is_ready (Ready o) r = reply_eq (replies.Outcome o) r

-- change: needs, then
abbrev pub step : Future → ℕ → Op → Option ℕ → ℤ → Reply → Option Future
step f by ops.Defer (Some zero) (pos zero) replies.Ok = when (is_fresh f) Deferred
step f by ops.Run (Some zero) (pos zero) replies.Ok = when (is_deferred f) (Running by)
step f by ops.Set a b replies.Ok = set (is_fresh f || runs f by) (outcome_of a b)
step f by _ _ _ _ = None

-- look: shown where
abbrev pub shows : Future → ℕ → Op → Option ℕ → ℤ → Reply → Bool
shows f by ops.Ready (Some zero) (pos zero) o = is_ready f o
shows f by _ _ _ _ = false
