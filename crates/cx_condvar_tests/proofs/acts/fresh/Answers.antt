use Rattle.std.proofs.Common.{false, arith}
use Rattle.cx_machine.specs.Condition as machine
use Rattle.cx_turn.specs.declared.view.View.{View}
use Rattle.cx_turn.specs.Views.{opening_view, split_left, split_right}
use Rattle.cx_condvar_tests.proofs.acts.fresh.Goals as goal

abbrev opening : View machine.Condition
opening = opening_view machine.opening 2 8 0

pub returns-clause-first : goal.returns-clause-first
returns-clause-first c =
    let was = c.in_ok-condition.ensures.pass in
    let is = c.split-second.ensures.first opening was in
    ((split_left opening 4, is), c.split-second.ensures.same false c.in_ok-condition.ensures.out, (let left = is.counted.may in omega arith))

pub returns-clause-second : goal.returns-clause-second
returns-clause-second c =
    let was = c.in_ok-condition.ensures.pass in
    let is = c.split-second.ensures.second opening was in
    ((split_right opening 4, is), c.split-second.ensures.out, (let left = is.counted.may in omega arith))
