use Rattle.std.specs.Prelude.{◌≡◌, ℕ, List}
use Rattle.cx_machine.specs.Stop.{Stop}
use Rattle.cx_turn.specs.declared.view.View.{View}
use Rattle.cx_stop.specs.Runs.{Tells, RunsOn}
use Rattle.cx_stop.specs.Stops.{StopId, IsStopPassWith, HasRequested}
use Rattle.cx_stop.proofs.state.StopState.run_all.Given as goal

abbrev pub invariant-loop : goal.invariant-loop
invariant-loop g l =
    (goal.iterator-loop g).can_next l.iterator' × (goal.iterator-loop g).is_finite l.iterator'
    × (l.pass.next_tag ≡ l.initial.pass.next_tag)
    × (l.pass.pass.left ≡ l.initial.pass.pass.left)
    × ((i : StopId) (n : ℕ) → g.U.Runs.serves l.initial.runner i n → g.U.Runs.serves l.runner i n)
    × HasRequested l.self l.pass
    × ((v : View Stop) → IsStopPassWith l.self l.initial.pass v → (x : View Stop) × (acts : List (ℕ × ℕ)) × IsStopPassWith l.self l.pass x × RunsOn v x 0 acts × g.U.Runs.since l.initial.runner v l.runner x × Tells (g.U.Runs.ran l.initial.runner) acts (g.U.Runs.ran l.runner))
