-- The machine of a shared mutex, as its trait has it.
use Rattle.std.specs.Prelude.{None, false}
use Rattle.cx_machine.specs.Acts.{at_entry, at_look}
use Rattle.cx_machine.specs.Shared.{Shared, opening, step, shows}
use Rattle.cx_machine.specs.declared.machine.Meaning.{Ghosts}

abbrev pub sharing : Ghosts Shared
sharing = record { step = at_entry step; shows = at_look shows; picks = λ _ _. Unit {0}; members = λ s. s.readers; most = λ s seats. seats; pool = λ _. 0; debt = λ _. 0; gives = λ _ _. None; takes = λ _ _. None; lives = λ _ _. false; any = opening }
