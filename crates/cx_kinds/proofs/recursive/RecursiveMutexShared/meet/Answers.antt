use Rattle.std.proofs.Common.{refl}
use Rattle.cx_turn.specs.Views.{having_met}
use Rattle.cx_kinds.proofs.Holding.{with_levels}
use Rattle.cx_kinds.proofs.recursive.RecursiveMutexShared.meet.Goals as goal

pub returns-clause-to : goal.returns-clause-to
returns-clause-to c = λ v w a b.
    let to = c.args.to.now in
    with_levels c.args.self.now to.pass c.meet.new.to to.levels to.levels w (having_met w v) b (c.meet.ensures.to v w a.pass b.pass) refl refl (c.meet.ensures.to_same to.levels.count b.levels) b.few
