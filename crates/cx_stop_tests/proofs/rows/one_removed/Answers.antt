use Rattle.cx_machine.specs.Stop.{Stop, opening}
use Rattle.cx_turn.specs.declared.view.View.{View}
use Rattle.cx_turn.specs.Views.{opening_view, split_left, split_right}
use Rattle.cx_stop_tests.proofs.rows.one_removed.Goals as goal

-- the two passes after the split
abbrev one : View Stop
one = split_left (opening_view (opening 1) 2 40 0) 4

abbrev two : View Stop
two = split_right (opening_view (opening 1) 2 40 0) 4

pub queue-requires : goal.queue-requires
queue-requires g c = (one, c.split-second.ensures.first _ c.in_ok-state.ensures.pass)

pub deregister-removed-requires-clause-pass : goal.deregister-removed-requires-clause-pass
deregister-removed-requires-clause-pass g c = (two, c.split-second.ensures.second _ c.in_ok-state.ensures.pass)
