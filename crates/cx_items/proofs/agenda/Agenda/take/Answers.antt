use Rattle.std.proofs.Common.{arith, ap, length}
use Rattle.std.proofs.lemmas.List.{length-reverse}
use Rattle.cx_items.proofs.Ends.{below}
use Rattle.cx_items.proofs.agenda.Agenda.take.Goals as goal

pub returns-clause-rest : goal.returns-clause-rest
returns-clause-rest c =
    let ts = c.self.inside.tasks.items in
    rw (← c.self.view_is) (below ts c.truncate.new.self.items c.pop.new.self.items c.unwrap.result _ c.args.depth
    (omega (arith, ap length c.self.view_is, length-reverse ts))
    (omega (arith, ap length c.self.view_is, length-reverse ts, c.self.inside.tasks.ok.0))
    c.truncate.ensures.items
    (rw c.unwrap.ensures at c.pop.ensures.items))
