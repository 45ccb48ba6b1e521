use Rattle.cx_turn.specs.Views.{having_met}
use Rattle.cx_object_tests.proofs.shared_mutex.joins.Goals as goal

pub join-requires-clause-pass : goal.join-requires-clause-pass
join-requires-clause-pass g c = let i = c.enter-entered.ensures.idle in (i.0, c.meet.ensures.from i.0 i.1)

pub join-requires-clause-other : goal.join-requires-clause-other
join-requires-clause-other g c = let i = c.enter-entered.ensures.idle in let o = c.in_ok-mutex.ensures.second.0 in (having_met o.0 i.0, c.meet.ensures.to i.0 o.0 i.1 o.1)
