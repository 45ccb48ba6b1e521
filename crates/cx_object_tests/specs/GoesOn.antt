-- What the tests' calls on a semaphore's turn make of a pass.
use Rattle.std.specs.Prelude.{◌≡◌, ◌≤◌, ◌+◌, [], None, false}
use mathlib.Core.List.{IsPrefix}
use Rattle.cx_machine.specs.Acts.{at_entry, at_look}
use Rattle.cx_machine.specs.Semaphore.{Semaphore, opening, step, shows}
use Rattle.cx_machine.specs.declared.machine.Meaning.{Ghosts}
use Rattle.cx_turn.specs.declared.view.View.{View}

-- the semaphore's machine, as its trait has it
abbrev pub counting : Ghosts Semaphore
counting = record { step = at_entry step; shows = at_look shows; picks = λ _ _. Unit {0}; members = λ _. []; most = λ _ _. 0; pool = λ _. 0; debt = λ _. 0; gives = λ _ _. None; takes = λ _ _. None; lives = λ _ _. false; any = opening 0 0 }

abbrev pub kept : Semaphore → Semaphore
kept s = s

-- the pass went on, and is who it was
pub record GoesOn (v w : View Semaphore) : Type 0 where
  pub later : IsPrefix v.front w.front
  pub number : w.number ≡ v.number
  pub splits : w.splits ≡ v.splits
  pub taken : w.taken ≡ v.taken
  pub left : v.left ≤ w.left + 1
