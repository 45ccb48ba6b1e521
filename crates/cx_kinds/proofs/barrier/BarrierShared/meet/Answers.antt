use Rattle.std.proofs.Common.{refl}
use Rattle.cx_turn.specs.Views.{having_met}
use Rattle.cx_turn.proofs.Histories.{prefix_refl}
use Rattle.cx_kinds.proofs.Owing.{with_owing}
use Rattle.cx_kinds.proofs.barrier.BarrierShared.meet.Goals as goal

pub returns-clause-from : goal.returns-clause-from
returns-clause-from c = λ v a. with_owing c.args.self.now c.args.from.now.pass c.meet.new.from c.args.from.now.completing v v a (c.meet.ensures.from v a.pass) (prefix_refl v.front) refl refl refl

pub returns-clause-to : goal.returns-clause-to
returns-clause-to c = λ v w a b.
    let seen = c.meet.ensures.to v w a.pass b.pass in
    with_owing c.args.self.now c.args.to.now.pass c.meet.new.to c.args.to.now.completing w (having_met w v) b seen seen.pass.known.met.0 refl refl refl
