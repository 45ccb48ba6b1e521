use Rattle.std.proofs.Common.{◌≡◌, ◌∙◌, ◌≤◌, sym, subst, arith}
use Rattle.cx_machine.specs.Latch.{Latch, opening}
use Rattle.cx_turn.specs.declared.view.View.{View}
use Rattle.cx_turn.specs.Views.{opening_view, split_left, split_right, less_share, given}
use Rattle.cx_sync.specs.Sync.{IsLatchPassWith}
use Rattle.cx_object_tests.proofs.sync.two_arrive.Goals as goal

-- the first pass and the second after the split
abbrev one : View Latch
one = split_left (opening_view (opening 2) 2 10 2) 1

abbrev two : View Latch
two = split_right (opening_view (opening 2) 2 10 2) 1

-- and once one of the share went over
abbrev less : View Latch
less = less_share one 1

abbrev more : View Latch
more = given two one 1

pub give-requires-clause-from : goal.give-requires-clause-from
give-requires-clause-from g c = (one, c.split-second.ensures.first _ c.in_ok-latch.ensures.pass)

pub give-requires-clause-to : goal.give-requires-clause-to
give-requires-clause-to g c = (two, c.split-second.ensures.second _ c.in_ok-latch.ensures.pass)

pub give-requires-clause-share : goal.give-requires-clause-share
give-requires-clause-share g c = let a = c.split-second.ensures.first _ c.in_ok-latch.ensures.pass in omega (arith, a.counted.part)

pub arriver-requires-after_bounds : goal.arriver-requires-after_bounds
arriver-requires-after_bounds g c κs within =
    let a = c.split-second.ensures.first _ c.in_ok-latch.ensures.pass in let b = c.split-second.ensures.second _ c.in_ok-latch.ensures.pass in
    let f = c.give.ensures.to one two a b in
    let e = c.in_ok-theirs.ensures ∙ c.in_ok-latch-2.ensures.ok in
    ((more, subst (λ t. IsLatchPassWith t c.give.new.to more) (sym e) f), omega (arith, f.counted.may), omega (arith, f.counted.part))

pub arrive_and_wait-mine-requires-clause-pass : goal.arrive_and_wait-mine-requires-clause-pass
arrive_and_wait-mine-requires-clause-pass g c =
    let f = c.give.ensures.from one (c.split-second.ensures.first _ c.in_ok-latch.ensures.pass) in
    let e = c.deref.ensures ∙ c.in_ok-latch-2.ensures.ok in
    (less, subst (λ t. IsLatchPassWith t c.give.new.from less) (sym e) f)

pub arrive_and_wait-mine-requires-clause-left : goal.arrive_and_wait-mine-requires-clause-left
arrive_and_wait-mine-requires-clause-left g c = let f = c.give.ensures.from one (c.split-second.ensures.first _ c.in_ok-latch.ensures.pass) in omega (arith, f.counted.may)

pub arrive_and_wait-mine-requires-clause-share : goal.arrive_and_wait-mine-requires-clause-share
arrive_and_wait-mine-requires-clause-share g c = let f = c.give.ensures.from one (c.split-second.ensures.first _ c.in_ok-latch.ensures.pass) in omega (arith, f.counted.part)
