use Rattle.std.proofs.Common.{◌≤◌, arith}
use Rattle.cx_machine.specs.Latch.{Latch, opening}
use Rattle.cx_turn.specs.declared.view.View.{View}
use Rattle.cx_turn.specs.Views.{opening_view, split_left, split_right, less_share, given, having_met}
use Rattle.cx_object_tests.proofs.sync.give_and_join.Goals as goal

-- the first pass and the second after the split
abbrev one : View Latch
one = split_left (opening_view (opening 3) 2 10 3) 1

abbrev two : View Latch
two = split_right (opening_view (opening 3) 2 10 3) 1

-- and once two of the share went over
abbrev less : View Latch
less = less_share one 2

abbrev more : View Latch
more = given two one 2

pub give-requires-clause-from : goal.give-requires-clause-from
give-requires-clause-from c = (one, c.split-second.ensures.first _ c.in_ok-latch.ensures.pass)

pub give-requires-clause-to : goal.give-requires-clause-to
give-requires-clause-to c = (two, c.split-second.ensures.second _ c.in_ok-latch.ensures.pass)

pub give-requires-clause-share : goal.give-requires-clause-share
give-requires-clause-share c = let a = c.split-second.ensures.first _ c.in_ok-latch.ensures.pass in omega (arith, a.counted.part)

pub meet-requires-clause-from : goal.meet-requires-clause-from
meet-requires-clause-from c = (less, c.give.ensures.from one (c.split-second.ensures.first _ c.in_ok-latch.ensures.pass))

pub meet-requires-clause-to : goal.meet-requires-clause-to
meet-requires-clause-to c = let a = c.split-second.ensures.first _ c.in_ok-latch.ensures.pass in let b = c.split-second.ensures.second _ c.in_ok-latch.ensures.pass in (more, c.give.ensures.to one two a b)

pub join-requires-clause-pass : goal.join-requires-clause-pass
join-requires-clause-pass c = let a = c.split-second.ensures.first _ c.in_ok-latch.ensures.pass in (less, c.meet.ensures.from less (c.give.ensures.from one a))

pub join-requires-clause-other : goal.join-requires-clause-other
join-requires-clause-other c =
    let a = c.split-second.ensures.first _ c.in_ok-latch.ensures.pass in let b = c.split-second.ensures.second _ c.in_ok-latch.ensures.pass in
    (having_met more less, c.meet.ensures.to less more (c.give.ensures.from one a) (c.give.ensures.to one two a b))
