use Rattle.std.proofs.Common.{refl}
use Rattle.cx_turn.specs.Views.{both_of}
use Rattle.cx_kinds.proofs.Holding.{with_levels}
use Rattle.cx_kinds.proofs.recursive.RecursiveMutexShared.join.Goals as goal

pub returns-clause-seen : goal.returns-clause-seen
returns-clause-seen c = λ v w a b.
    let token = c.args.token.now in
    with_levels c.args.self.now token.pass c.join.new.pass token.levels token.levels v (both_of v w) a (c.join.ensures.seen v w a.pass b.pass) refl refl (c.join.ensures.same token.levels.count a.levels) a.few
