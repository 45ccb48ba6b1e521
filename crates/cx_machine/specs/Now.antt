-- The reply that a machine gives now, where the words of an act leave it open.
use Rattle.std.specs.Prelude.{ℕ, Bool, false, ℤ, pos, List, [], ◌∷◌, length, slice_get, Option, Some, None, is_some, option_and_then}
use Rattle.cx_names.specs.declared.Reply.{Reply}
use Rattle.cx_names.specs.declared.Reply.TheVariants as replies
use Rattle.cx_machine.specs.declared.kind.Op.{Op}
use Rattle.cx_machine.specs.declared.kind.Op.TheVariants as ops
use Rattle.cx_machine.specs.Words.{small_of, fitting}
use Rattle.cx_machine.specs.Mutex.{Mutex, sum_at}
use Rattle.cx_machine.specs.Condition.{Condition}
use Rattle.cx_machine.specs.Future.{Future, Ready}
use Rattle.cx_machine.specs.Machine.{State, Mutex as AMutex, Barrier as ABarrier, Condition as ACondition, Stop as AStop, Future as AFuture}

abbrev pub number_or_ok : Option ℤ → Reply
number_or_ok None = replies.Ok
number_or_ok (Some n) = replies.Number n

-- who entered first
abbrev pub first_waiting : List ℕ → Reply
first_waiting [] = replies.Nobody
first_waiting (t ∷ ts) = replies.Thread (record { 0 = t })

abbrev pub outcome_now : Future → Reply
outcome_now (Ready o) = replies.Outcome o
outcome_now _ = replies.Ok

abbrev pub mutex_reply : Mutex → ℕ → Op → Option ℕ → ℤ → Reply
mutex_reply m t ops.Get (Some i) b = number_or_ok (slice_get m.numbers i)
mutex_reply m t ops.Add (Some i) b = number_or_ok (option_and_then fitting (sum_at m t i b))
mutex_reply m t _ _ b = replies.Ok

abbrev pub condition_reply : Condition → Op → Reply
condition_reply c ops.NotifyOne = first_waiting c.waiting
condition_reply c ops.NotifyAll = replies.Number (pos (length c.waiting))
condition_reply c _ = replies.Ok

abbrev pub reply_now : State → ℕ → Op → ℤ → ℤ → Reply
reply_now (AMutex m) t op a b = mutex_reply m t op (small_of a) b
reply_now (ABarrier x) t op a b = replies.Number (pos x.phase)
reply_now (ACondition c) t op a b = condition_reply c op
reply_now (AFuture f) t op a b = outcome_now f
reply_now _ t op a b = replies.Ok

-- the barrier waits for a thread to complete its phase
abbrev pub is_completing : Option State → Bool
is_completing (Some (ABarrier b)) = is_some b.completing
is_completing _ = false

-- the callback that was registered first
abbrev pub first_registered : Option State → Option ℕ
first_registered (Some (AStop s)) = slice_get s.registered 0
first_registered _ = None
