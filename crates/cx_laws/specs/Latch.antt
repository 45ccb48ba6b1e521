-- A latch in the standard's words [thread.latch.class].
use Rattle.std.specs.Prelude.{◌≡◌, ℕ, ◌≤◌, Bool, true, false, List, ◌++◌}
use Rattle.cx_names.specs.declared.Reply.{Reply}
use Rattle.cx_names.specs.declared.Reply.TheVariants as replies
use Rattle.cx_machine.specs.declared.kind.Kind.TheVariants as kinds
use Rattle.cx_machine.specs.declared.kind.Entry.{Entry}
use Rattle.cx_machine.specs.declared.kind.Look.{Look}
use Rattle.cx_machine.specs.declared.kind.Op.{Op}
use Rattle.cx_machine.specs.declared.kind.Op.TheVariants as ops
use Rattle.cx_machine.specs.Machine.{IsLegal}
use Rattle.cx_laws.specs.History.{total, amount_of, IsShownAfter}

abbrev pub is_count_down : Op → Bool
is_count_down ops.CountDown = true
is_count_down _ = false

abbrev pub counted : List Entry → ℕ
counted h = total (λ e. amount_of (is_count_down e.op) e) h

-- the look says that the latch is open
abbrev pub is_opened : Op → Reply → Bool
is_opened ops.Wait r = true
is_opened ops.TryWait replies.True = true
is_opened _ _ = false

-- THE COUNTER NEVER GOES BELOW 0, nor up again: what is counted down is at most what it was made with
abbrev pub CountedWithin : Type 0
CountedWithin = (expected : ℕ) (h : List Entry) → IsLegal (kinds.Latch expected) h → counted h ≤ expected

-- WHO WAITED RETURNS ONLY WHEN ALL WAS COUNTED DOWN
abbrev pub OpensAtZero : Type 0
OpensAtZero = (expected : ℕ) (h : List Entry) (l : Look) → IsShownAfter (kinds.Latch expected) h l → is_opened l.op l.reply ≡ true → counted h ≡ expected

-- a latch that is open stays open
abbrev pub StaysOpen : Type 0
StaysOpen = (expected : ℕ) (h more : List Entry) (l : Look) → IsShownAfter (kinds.Latch expected) h l → is_opened l.op l.reply ≡ true → IsLegal (kinds.Latch expected) (h ++ more) → IsShownAfter (kinds.Latch expected) (h ++ more) l
