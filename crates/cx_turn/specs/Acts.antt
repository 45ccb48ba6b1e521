-- How a call moved a pass.
use Rattle.std.specs.Prelude.{◌≡◌, ℕ, ℤ, List, length, Some, IsTrue}
use mathlib.Core.List.{IsPrefix}
use Rattle.cx_names.specs.declared.ThreadNo.{ThreadNo}
use Rattle.cx_machine.specs.declared.kind.Op.{Op}
use Rattle.cx_machine.specs.declared.kind.Entry.{Entry}
use Rattle.cx_machine.specs.declared.kind.Look.{Look}
use Rattle.cx_machine.specs.declared.machine.Meaning.{Ghosts}
use Rattle.cx_machine.specs.Meaning.{run, change, look_of}
use Rattle.cx_turn.specs.declared.view.View.{View}
use Rattle.cx_turn.specs.declared.either.Either.{Either}
use Rattle.cx_turn.specs.declared.either.Either.TheVariants as eithers
use Rattle.cx_turn.specs.Views.{with_change, with_look}

-- the pass has seen this history, and is else as before
abbrev pub seen : {M : Type 0} → View M → List Entry → View M
seen v front = record v { front = front }

module _ {M : Type 0} where
  -- no change and no look was made, and what was seen goes on
  pub record Sees (v w : View M) : Type 0 where
    pub later : IsPrefix v.front w.front
    pub same : w ≡ seen v w.front

module _ {M : Type 0} (K : Ghosts M) where
  -- one change was made: after the history found, which the pass's own begins, and at its end
  pub record Makes (v w : View M) (e : Entry) (n : ℕ) : Type 0 where
    pub found : List Entry
    pub now : M
    pub after : M
    pub later : IsPrefix v.front found
    pub position : n ≡ length found
    pub leads : run K.step (Some v.start) found ≡ Some now
    pub enabled : K.step now e ≡ Some after
    pub picked : K.picks now e
    pub view : w ≡ with_change K (seen v found) e now after

  -- one look was made, at the state after the whole history found
  pub record Looks (v w : View M) (l : Look) : Type 0 where
    pub now : M
    pub later : IsPrefix v.front w.front
    pub stamp : l.at ≡ length w.front
    pub leads : run K.step (Some v.start) w.front ≡ Some now
    pub shown : IsTrue (K.shows now l)
    pub view : w ≡ with_look (seen v w.front) l

  -- nothing was made, and of the state after the whole history found this is so
  pub record Finds (P : M → Type 0) (v w : View M) : Type 0 where
    pub now : M
    pub later : IsPrefix v.front w.front
    pub leads : run K.step (Some v.start) w.front ≡ Some now
    pub holds : P now
    pub view : w ≡ seen v w.front

  -- what a call did that could do two things
  abbrev pub DoesEither : ThreadNo → Op → Op → ℤ → ℤ → View M → View M → Either → Type 0
  DoesEither by one two a b v w (eithers.Made r n) = Makes v w (change by one a b r) n
  DoesEither by one two a b v w (eithers.Seen r k) = Looks v w (look_of by two a b r k)
