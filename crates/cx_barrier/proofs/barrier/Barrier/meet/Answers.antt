use Rattle.std.proofs.Common.{refl}
use Rattle.cx_turn.specs.Views.{having_met}
use Rattle.cx_turn.proofs.Histories.{prefix_refl}
use Rattle.cx_barrier.proofs.Passing.{sees_on, keeps_due}
use Rattle.cx_barrier.proofs.barrier.Barrier.meet.Goals as goal

pub returns-clause-from : goal.returns-clause-from
returns-clause-from c v is = sees_on c.args.self.now c.args.from.now c.meet.new.from v v is (c.meet.ensures.from v is.pass) _ refl (prefix_refl v.front) refl refl refl

pub returns-clause-to : goal.returns-clause-to
returns-clause-to c v w is is' =
    let q = c.meet.ensures.to v w is.pass is'.pass in
    sees_on c.args.self.now c.args.to.now c.meet.new.to w (having_met w v) is' q _ refl q.known.met.0 refl refl refl

pub returns-clause-from_completing : goal.returns-clause-from_completing
returns-clause-from_completing c =
    let p = c.requires.from in
    keeps_due c.args.self.now c.args.from.now c.meet.new.from p.0 p.0 p.1 (c.meet.ensures.from p.0 p.1.pass) _ refl (prefix_refl p.0.front) refl refl refl

pub returns-clause-to_completing : goal.returns-clause-to_completing
returns-clause-to_completing c =
    let p = c.requires.to in let o = c.requires.from in
    let q = c.meet.ensures.to o.0 p.0 o.1.pass p.1.pass in
    keeps_due c.args.self.now c.args.to.now c.meet.new.to p.0 (having_met p.0 o.0) p.1 q _ refl q.known.met.0 refl refl refl

pub meet-requires-clause-from : goal.meet-requires-clause-from
meet-requires-clause-from c = let p = c.requires.from in (p.0, p.1.pass)

pub meet-requires-clause-to : goal.meet-requires-clause-to
meet-requires-clause-to c = let p = c.requires.to in (p.0, p.1.pass)
