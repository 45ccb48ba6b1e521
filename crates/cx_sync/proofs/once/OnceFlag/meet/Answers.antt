use Rattle.std.proofs.Common.{refl}
use Rattle.cx_turn.specs.Views.{having_met}
use Rattle.cx_turn.proofs.Histories.{prefix_refl}
use Rattle.cx_sync.proofs.Executions.{keeps_active}
use Rattle.cx_sync.proofs.once.OnceFlag.meet.Goals as goal

pub returns-clause-from_active : goal.returns-clause-from_active
returns-clause-from_active c =
    let p = c.requires.from in
    keeps_active c.args.self.now c.args.from.now c.meet.new.from p.0 p.0 p.1 (c.meet.ensures.from p.0 p.1) (prefix_refl p.0.front) refl refl refl

pub returns-clause-to_active : goal.returns-clause-to_active
returns-clause-to_active c =
    let p = c.requires.to in let o = c.requires.from in
    let q = c.meet.ensures.to o.0 p.0 o.1 p.1 in
    keeps_active c.args.self.now c.args.to.now c.meet.new.to p.0 (having_met p.0 o.0) p.1 q q.known.met.0 refl refl refl
