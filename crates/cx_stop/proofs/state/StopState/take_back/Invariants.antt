use Rattle.cx_machine.specs.Stop.{Stop}
use Rattle.cx_turn.specs.declared.view.View.{View}
use Rattle.cx_turn.specs.Acts.{Sees}
use Rattle.cx_stop.specs.Stops.{IsInnerWith}
use Rattle.cx_stop.proofs.state.StopState.take_back.Given as goal

abbrev pub invariant-loop : goal.invariant-loop
invariant-loop g l =
    (goal.iterator-loop g).can_next l.iterator' × (goal.iterator-loop g).is_finite l.iterator'
    × ((v : View Stop) → IsInnerWith l.self l.initial.pass v → (u : View Stop) × IsInnerWith l.self l.pass u × Sees v u)
