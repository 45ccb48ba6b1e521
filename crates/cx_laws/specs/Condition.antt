-- A condition variable in the standard's words [thread.condition].
use Rattle.std.specs.Prelude.{◌≡◌, ℕ, ◌==◌, ◌&&◌, Bool, true, false, List, ◌∷◌, ◌++◌}
use Rattle.cx_names.specs.declared.ThreadNo.{ThreadNo}
use Rattle.cx_names.specs.declared.Reply.{Reply}
use Rattle.cx_names.specs.declared.Reply.TheVariants as replies
use Rattle.cx_machine.specs.declared.kind.Kind.TheVariants as kinds
use Rattle.cx_machine.specs.declared.kind.Entry.{Entry}
use Rattle.cx_machine.specs.declared.kind.Op.{Op}
use Rattle.cx_machine.specs.declared.kind.Op.TheVariants as ops
use Rattle.cx_machine.specs.Machine.{IsLegal}
use Rattle.cx_laws.specs.History.{count, is_by}

abbrev pub is_enter : Op → Bool
is_enter ops.Enter = true
is_enter _ = false

abbrev pub is_unblock : Op → Bool
is_unblock ops.Unblock = true
is_unblock _ = false

abbrev pub is_withdraw : Op → Bool
is_withdraw ops.Withdraw = true
is_withdraw _ = false

-- a thread begins to wait or ends its wait
abbrev pub is_move : Op → Bool
is_move ops.Enter = true
is_move ops.Unblock = true
is_move ops.Withdraw = true
is_move _ = false

-- a notification of this thread, or of all that wait
abbrev pub is_notice : ℕ → Op → Reply → Bool
is_notice t ops.NotifyOne (replies.Thread u) = u.0 == t
is_notice t ops.NotifyAll r = true
is_notice t _ _ = false

abbrev pub enters : ℕ → Entry → Bool
enters t e = is_enter e.op && is_by t e

abbrev pub moves : ℕ → Entry → Bool
moves t e = is_move e.op && is_by t e

abbrev pub notifies : ℕ → Entry → Bool
notifies t e = is_notice t e.op e.reply

-- since the thread entered it has neither left nor been notified
pub record Waits (t : ℕ) (h : List Entry) : Type 0 where
  pub earlier : List Entry
  pub entry : Entry
  pub since : List Entry
  pub is : h ≡ earlier ++ entry ∷ since
  pub enter : enters t entry ≡ true
  pub stays : count (moves t) since ≡ 0
  pub unnotified : count (notifies t) since ≡ 0

-- since the thread entered it hasn't left, and it was notified
pub record WasNotified (t : ℕ) (h : List Entry) : Type 0 where
  pub earlier : List Entry
  pub notice : Entry
  pub since : List Entry
  pub is : h ≡ earlier ++ notice ∷ since
  pub waited : Waits t earlier
  pub notifies_it : notifies t notice ≡ true
  pub stays : count (moves t) (notice ∷ since) ≡ 0

-- WHO IS UNBLOCKED WAS NOTIFIED since it began to wait
abbrev pub UnblockedWasNotified : Type 0
UnblockedWasNotified = (before rest : List Entry) (e : Entry) → IsLegal kinds.Condition (before ++ e ∷ rest) → is_unblock e.op ≡ true → WasNotified e.by.0 before

-- A NOTIFICATION OF ONE GOES TO A THREAD THAT WAITS
abbrev pub NotifiedWaits : Type 0
NotifiedWaits = (before rest : List Entry) (e : Entry) (t : ThreadNo) → IsLegal kinds.Condition (before ++ e ∷ rest) → e.op ≡ ops.NotifyOne → e.reply ≡ replies.Thread t → Waits t.0 before

-- a thread withdraws only from a wait in which it wasn't notified
abbrev pub WithdrawnWaits : Type 0
WithdrawnWaits = (before rest : List Entry) (e : Entry) → IsLegal kinds.Condition (before ++ e ∷ rest) → is_withdraw e.op ≡ true → Waits e.by.0 before
