-- The machines of a semaphore, of a latch and of a once flag, as their traits have them.
use Rattle.std.specs.Prelude.{[], None, false}
use Rattle.cx_machine.specs.Acts.{at_entry, at_look}
use Rattle.cx_machine.specs.Semaphore as semaphore
use Rattle.cx_machine.specs.Latch as latch
use Rattle.cx_machine.specs.Once as once
use Rattle.cx_machine.specs.declared.machine.Meaning.{Ghosts}

abbrev pub counting : Ghosts semaphore.Semaphore
counting = record { step = at_entry semaphore.step; shows = at_look semaphore.shows; picks = λ _ _. Unit {0}; members = λ _. []; most = λ _ _. 0; pool = λ _. 0; debt = λ _. 0; gives = λ _ _. None; takes = λ _ _. None; lives = λ _ _. false; any = semaphore.opening 0 0 }

abbrev pub latching : Ghosts latch.Latch
latching = record { step = at_entry latch.step; shows = at_look latch.shows; picks = λ _ _. Unit {0}; members = λ _. []; most = λ _ _. 0; pool = λ l. l.counter; debt = λ _. 0; gives = λ _ _. None; takes = λ _ _. None; lives = λ _ _. false; any = latch.opening 0 }

abbrev pub executing : Ghosts once.Once
executing = record { step = at_entry once.step; shows = at_look once.shows; picks = λ _ _. Unit {0}; members = λ _. []; most = λ _ _. 0; pool = λ _. 0; debt = λ _. 0; gives = λ _ _. None; takes = λ _ _. None; lives = λ _ _. false; any = once.Idle }

-- the kept state is seen as what it means
abbrev pub kept : {A : Type 0} → A → A
kept a = a
