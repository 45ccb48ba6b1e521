use Rattle.std.proofs.Common.{refl}
use Rattle.cx_turn.specs.Views.{having_met}
use Rattle.cx_turn.proofs.Histories.{prefix_refl}
use Rattle.cx_condvar.proofs.Passes.{stays}
use Rattle.cx_condvar.proofs.condvar.CondvarAny.meet.Goals as goal

pub returns-clause-from_same : goal.returns-clause-from_same
returns-clause-from_same c =
    let p = c.requires.from in
    stays c.args.self.now c.args.from.now c.meet.new.from p.0 p.0 p.1 (c.meet.ensures.from p.0 p.1) (prefix_refl p.0.front) refl refl

pub returns-clause-to_same : goal.returns-clause-to_same
returns-clause-to_same c =
    let p = c.requires.to in let o = c.requires.from in
    let q = c.meet.ensures.to o.0 p.0 o.1 p.1 in
    stays c.args.self.now c.args.to.now c.meet.new.to p.0 (having_met p.0 o.0) p.1 q q.known.met.0 refl refl
