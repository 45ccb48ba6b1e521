-- The machine of a stop state, as its trait has it, and what the kept state means.
use Rattle.std.specs.Prelude.{◌*◌}
use Rattle.cx_machine.specs.Acts.{at_entry, at_look}
use Rattle.cx_machine.specs.Words.{small_of}
use Rattle.cx_machine.specs.Registries.{registry_of}
use Rattle.cx_machine.specs.Stop.{Stop, opening, step, shows}
use Rattle.cx_machine.specs.Callbacks.{members, debt, given, taken_back, lives}
use Rattle.cx_machine.specs.declared.machine.Meaning.{Ghosts}
use Rattle.cx_turn.specs.declared.turn.Turn.{Turn}
use Rattle.cx_turn.specs.Passes.{start_of}
use Rattle.cx_stop.specs.declared.kept.Kept.{Kept}

abbrev pub stopping : Ghosts Stop
stopping = record { step = at_entry step; shows = at_look shows; picks = λ _ _. Unit {0}; members = members; most = λ s seats. seats * 4096; pool = λ s. s.sources; debt = debt; gives = λ s e. given e.op (small_of e.a); takes = λ s e. taken_back e.op (small_of e.a); lives = lives; any = opening 0 }

-- what a state with those who wait means
abbrev pub means : {C : Type 0} → Kept C → Stop
means q = registry_of q.at.value.state

-- the state before the first change
abbrev pub opens : {C H : Type 0} → Turn Stop (Kept C) H → Stop
opens t = start_of means t
