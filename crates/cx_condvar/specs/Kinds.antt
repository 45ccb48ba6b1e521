-- The machine of a condition, as its trait has it.
use Rattle.std.specs.Prelude.{None, false}
use Rattle.cx_machine.specs.Acts.{at_entry, at_look}
use Rattle.cx_machine.specs.Condition.{Condition, opening, step, shows}
use Rattle.cx_machine.specs.Waiters.{members, Picks}
use Rattle.cx_machine.specs.declared.machine.Meaning.{Ghosts}

abbrev pub waiting : Ghosts Condition
waiting = record { step = at_entry step; shows = at_look shows; picks = λ (c : Condition) e. Picks c e.op e.reply; members = members; most = λ c seats. seats; pool = λ _. 0; debt = λ _. 0; gives = λ _ _. None; takes = λ _ _. None; lives = λ _ _. false; any = opening }
