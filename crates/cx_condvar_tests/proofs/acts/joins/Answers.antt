use Rattle.cx_turn.specs.Views.{having_met}
use Rattle.cx_condvar_tests.proofs.acts.joins.Goals as goal

pub join-requires-clause-other : goal.join-requires-clause-other
join-requires-clause-other g c =
    let one = c.enter.ensures.idle in
    let two = c.in_ok-condition.ensures.second.0 in
    let met = c.meet.ensures.to one.0 two.0 one.1 two.1 in
    (having_met two.0 one.0, met)
