-- Who owns a mutex, by what a pass has seen.
use Rattle.std.specs.Prelude.{◌≡◌, ◌≢◌, ℕ, Bool, Some}
use Rattle.cx_machine.specs.Acts.{at_entry}
use Rattle.cx_machine.specs.Meaning.{run}
use Rattle.cx_machine.specs.Mutex.{Mutex, owns, levels_of, step}
use Rattle.cx_turn.specs.declared.view.View.{View}

-- after the history that the pass has seen, whether its thread owns the mutex
abbrev pub Owning : Bool → View Mutex → Type 0
Owning b v = (m : Mutex) → run (at_entry step) (Some v.start) v.front ≡ Some m → owns m v.number ≡ b

-- after the history that the pass has seen, another thread owns the mutex
abbrev pub OwnedByAnother : View Mutex → Type 0
OwnedByAnother v = (m : Mutex) → run (at_entry step) (Some v.start) v.front ≡ Some m → (t : ℕ) × (m.owner ≡ Some t) × (t ≢ v.number)

-- after the history that the pass has seen, its thread owns the mutex at so many levels
abbrev pub AtLevel : ℕ → View Mutex → Type 0
AtLevel k v = (m : Mutex) → run (at_entry step) (Some v.start) v.front ≡ Some m → levels_of m v.number ≡ k
