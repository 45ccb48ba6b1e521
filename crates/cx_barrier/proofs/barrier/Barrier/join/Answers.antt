use Rattle.std.proofs.Common.{refl}
use Rattle.cx_turn.specs.Views.{both_of}
use Rattle.cx_barrier.proofs.Passing.{sees_on, keeps_due}
use Rattle.cx_barrier.proofs.barrier.Barrier.join.Goals as goal

pub returns-clause-seen : goal.returns-clause-seen
returns-clause-seen c v w is is' =
    let q = c.join.ensures v w is.pass is'.pass in
    sees_on c.args.self.now c.args.pass.now c.join.new.pass v (both_of v w) is q _ refl q.known.met.0 refl refl refl

pub returns-clause-completing : goal.returns-clause-completing
returns-clause-completing c =
    let p = c.requires.pass in let o = c.requires.other in
    let q = c.join.ensures p.0 o.0 p.1.pass o.1.pass in
    keeps_due c.args.self.now c.args.pass.now c.join.new.pass p.0 (both_of p.0 o.0) p.1 q _ refl q.known.met.0 refl refl refl

pub join-requires-clause-pass : goal.join-requires-clause-pass
join-requires-clause-pass c = let p = c.requires.pass in (p.0, p.1.pass)

pub join-requires-clause-other : goal.join-requires-clause-other
join-requires-clause-other c = let p = c.requires.other in (p.0, p.1.pass)
