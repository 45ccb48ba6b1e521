-- What is so of the state that a pass has seen.
use Rattle.std.specs.Prelude.{◌≡◌, ℕ, pos, Bool, true, false, Option, Some, IsSome}
use Rattle.cx_names.specs.declared.ThreadNo.{ThreadNo}
use Rattle.cx_names.specs.declared.Reply.{Reply}
use Rattle.cx_machine.specs.declared.kind.Entry.{Entry}
use Rattle.cx_machine.specs.declared.kind.Op.{Op}
use Rattle.cx_machine.specs.Meaning.{change, run, IsShut}
use Rattle.cx_turn.specs.declared.view.View.{View}

module _ {M : Type 0} (step : M → Entry → Option M) where
  -- after the history that the pass has seen this is so of the state, and of its thread
  abbrev pub At : (M → ℕ → Type 0) → View M → Type 0
  At F v = (m : M) → run step (Some v.start) v.front ≡ Some m → F m v.number

  -- whether the state allows this thread the change with this word, and 0 for both numbers
  abbrev pub Allows : ThreadNo → Op → Bool → M → Type 0
  Allows by op true m = (r : Reply) × IsSome (step m (change by op (pos 0) (pos 0) r))
  Allows by op false m = IsShut step m by op (pos 0) (pos 0)

  -- and whether that state allows it
  abbrev pub Tells : ThreadNo → Op → Bool → View M → Type 0
  Tells by op told v = (m : M) → run step (Some v.start) v.front ≡ Some m → Allows by op told m
