-- The changes of a condition, and what a notification tells.
use Rattle.std.specs.Prelude.{◌≡◌, ℕ, pos, List, [], ◌∷◌, Option, Some, None, true}
use Rattle.cx_names.specs.declared.ThreadNo.{ThreadNo}
use Rattle.cx_names.specs.declared.Reply.{Reply}
use Rattle.cx_names.specs.declared.Reply.TheVariants as replies
use Rattle.cx_machine.specs.declared.kind.Entry.{Entry}
use Rattle.cx_machine.specs.declared.kind.Op.TheVariants as ops
use Rattle.cx_machine.specs.Condition.{Condition}
use Rattle.cx_machine.specs.Meaning.{change}
use Rattle.cx_machine.specs.Words.{has}
use Rattle.cx_turn.specs.declared.view.View.{View}
use Rattle.cx_turn.specs.declared.pass.Pass.{Pass}
use Rattle.cx_turn.specs.Acts.{Makes, Finds}
use Rattle.cx_condvar.specs.declared.condvar.CondvarAny.{CondvarAny}
use Rattle.cx_condvar.specs.Kinds.{waiting}
use Rattle.cx_condvar.specs.Condvars.{IsCondPassWith}

abbrev pub enters : ThreadNo → Entry
enters t = change t ops.Enter (pos 0) (pos 0) replies.Ok

abbrev pub unblocks : ThreadNo → Entry
unblocks t = change t ops.Unblock (pos 0) (pos 0) replies.Ok

abbrev pub withdraws : ThreadNo → Entry
withdraws t = change t ops.Withdraw (pos 0) (pos 0) replies.Ok

-- the reply of a notification of one, by the thread that it picked
abbrev pub notified_in : Option ThreadNo → Reply
notified_in None = replies.Nobody
notified_in (Some t) = replies.Thread t

abbrev pub notifies_one : ThreadNo → Option ThreadNo → Entry
notifies_one t who = change t ops.NotifyOne (pos 0) (pos 0) (notified_in who)

-- a reply that a notification of one may have
abbrev pub IsNotifiedReply : Reply → Type 0
IsNotifiedReply r = (who : Option ThreadNo) × (r ≡ notified_in who)

-- the thread that entered first of those that wait
abbrev pub first_of : List ℕ → Option ThreadNo
first_of [] = None
first_of (t ∷ ts) = Some (record { 0 = t })

-- the pass went on by a notification alone, which picked the thread that entered first, and nobody exactly where nobody waits
abbrev pub NotifiesOne : CondvarAny → Pass Condition → Pass Condition → Option ThreadNo → ℕ → Type 0
NotifiesOne x p q who n = (v : View Condition) → IsCondPassWith x p v → (w : View Condition) × IsCondPassWith x q w × ((made : Makes waiting v w (notifies_one p.number who) n) × (who ≡ first_of made.now.waiting))

-- the pass made nothing, and found that its thread was notified
abbrev pub FindsNotified : CondvarAny → Pass Condition → Pass Condition → Type 0
FindsNotified x p q = (v : View Condition) → IsCondPassWith x p v → (w : View Condition) × IsCondPassWith x q w × Finds waiting (λ c. has c.notified p.number.0 ≡ true) v w
