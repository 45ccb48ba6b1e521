-- What the taking of a turn makes of a pass over a semaphore.
use Rattle.std.specs.Prelude.{◌≡◌, ℕ, ◌+◌, ◌<◌, ◌≤◌, Bool, true, false, [], length, Some, None}
use mathlib.Core.List.{IsPrefix}
use Rattle.cx_machine.specs.declared.machine.Meaning.{Ghosts}
use Rattle.cx_machine.specs.Acts.{at_entry, at_look}
use Rattle.cx_machine.specs.Meaning.{run, bit}
use Rattle.cx_machine.specs.Semaphore.{Semaphore, opening, step, shows, can_release, can_acquire}
use Rattle.cx_turn.specs.declared.view.View.{View}

-- the semaphore's machine, as its trait has it
abbrev pub means : Ghosts Semaphore
means = record { step = at_entry step; shows = at_look shows; picks = λ _ _. Unit {0}; members = λ _. []; most = λ _ _. 0; pool = λ _. 0; debt = λ _. 0; gives = λ _ _. None; takes = λ _ _. None; lives = λ _ _. false; any = opening 0 0 }

abbrev pub counting : Semaphore → Semaphore
counting s = s

-- the release of one isn't enabled, or the acquisition isn't
abbrev pub IsRefused : Semaphore → Bool → Type 0
IsRefused s true = can_release s 1 ≡ false
IsRefused s false = can_acquire s ≡ false

-- at the state to which all that was seen leads
pub record IsRefusedAt (v : View Semaphore) (release : Bool) : Type 0 where
  pub now : Semaphore
  pub leads : run (at_entry step) (Some v.start) v.front ≡ Some now
  pub refused : IsRefused now release

abbrev pub IsMadeOrRefused : View Semaphore → Bool → Bool → Type 0
IsMadeOrRefused v release true = Unit {0}
IsMadeOrRefused v release false = IsRefusedAt v release

-- the pass went on, and made the change or was refused
pub record Acts (v w : View Semaphore) (release made : Bool) : Type 0 where
  pub later : IsPrefix v.front w.front
  pub mine : length w.mine ≡ length v.mine + bit made
  pub left : v.left ≤ w.left + 1
  pub refused : IsMadeOrRefused w release made

-- the pass went on, and made so many of n changes, or fewer where one was refused
pub record Made (v w : View Semaphore) (n made : ℕ) : Type 0 where
  pub later : IsPrefix v.front w.front
  pub mine : length w.mine ≡ length v.mine + made
  pub within : made ≤ n
  pub refused : made < n → (release : Bool) × IsRefusedAt w release
