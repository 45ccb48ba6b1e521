-- Who owns a shared mutex, by what a pass has seen.
use Rattle.std.specs.Prelude.{◌≡◌, ◌≢◌, ◌||◌, ℕ, Bool, true, Some}
use Rattle.cx_machine.specs.Acts.{at_entry}
use Rattle.cx_machine.specs.Meaning.{run}
use Rattle.cx_machine.specs.Words.{is_thread, has}
use Rattle.cx_machine.specs.Shared.{Shared, step}
use Rattle.cx_turn.specs.declared.view.View.{View}

-- the thread is the writer
abbrev pub writes : Shared → ℕ → Bool
writes s by = is_thread s.writer by

-- the thread is among the readers
abbrev pub reads : Shared → ℕ → Bool
reads s by = has s.readers by

-- after the history that the pass has seen, whether its thread is the writer, and whether it is among the readers
abbrev pub Owning : Bool → Bool → View Shared → Type 0
Owning writing reading v = (s : Shared) → run (at_entry step) (Some v.start) v.front ≡ Some s → (writes s v.number ≡ writing) × (reads s v.number ≡ reading)

-- after the history that the pass has seen, another thread is the writer
abbrev pub WrittenByAnother : View Shared → Type 0
WrittenByAnother v = (s : Shared) → run (at_entry step) (Some v.start) v.front ≡ Some s → (t : ℕ) × (writes s t ≡ true) × (t ≢ v.number)

-- after the history that the pass has seen, another thread is the writer or a reader
abbrev pub OwnedByAnother : View Shared → Type 0
OwnedByAnother v = (s : Shared) → run (at_entry step) (Some v.start) v.front ≡ Some s → (t : ℕ) × ((writes s t || reads s t) ≡ true) × (t ≢ v.number)
