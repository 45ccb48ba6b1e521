-- The machine of a barrier, as its trait has it.
use Rattle.std.specs.Prelude.{[], None, false}
use Rattle.cx_machine.specs.Acts.{at_entry, at_look}
use Rattle.cx_machine.specs.Barrier.{Barrier, opening, step, shows}
use Rattle.cx_machine.specs.declared.machine.Meaning.{Ghosts}

abbrev pub meeting : Ghosts Barrier
meeting = record { step = at_entry step; shows = at_look shows; picks = λ _ _. Unit {0}; members = λ _. []; most = λ _ _. 0; pool = λ _. 0; debt = λ _. 0; gives = λ _ _. None; takes = λ _ _. None; lives = λ _ _. false; any = opening 0 }

-- the kept state is seen as what it means
abbrev pub kept : Barrier → Barrier
kept b = b
