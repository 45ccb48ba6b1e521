use Rattle.cx_machine.specs.Semaphore.{Semaphore, opening}
use Rattle.cx_turn.specs.declared.view.View.{View}
use Rattle.cx_turn.specs.Views.{opening_view, split_left, split_right, having_met}
use Rattle.cx_object_tests.proofs.sync.split_and_join.Goals as goal

-- the first pass and the second after the split
abbrev one : View Semaphore
one = split_left (opening_view (opening 0 2) 2 10 0) 3

abbrev two : View Semaphore
two = split_right (opening_view (opening 0 2) 2 10 0) 3

pub meet-requires-clause-from : goal.meet-requires-clause-from
meet-requires-clause-from c = (one, c.split-second.ensures.first _ c.in_ok-gate.ensures.pass)

pub meet-requires-clause-to : goal.meet-requires-clause-to
meet-requires-clause-to c = (two, c.split-second.ensures.second _ c.in_ok-gate.ensures.pass)

pub join-requires-clause-pass : goal.join-requires-clause-pass
join-requires-clause-pass c = (one, c.meet.ensures.from one (c.split-second.ensures.first _ c.in_ok-gate.ensures.pass))

pub join-requires-clause-other : goal.join-requires-clause-other
join-requires-clause-other c = (having_met two one, c.meet.ensures.to one two (c.split-second.ensures.first _ c.in_ok-gate.ensures.pass) (c.split-second.ensures.second _ c.in_ok-gate.ensures.pass))
