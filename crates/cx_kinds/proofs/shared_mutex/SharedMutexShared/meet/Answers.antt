use Rattle.cx_turn.specs.Views.{having_met}
use Rattle.std.proofs.Common.{refl}
use Rattle.cx_kinds.proofs.Holding.{kept_sharing}
use Rattle.cx_kinds.proofs.shared_mutex.SharedMutexShared.meet.Goals as goal

pub returns-clause-to : goal.returns-clause-to
returns-clause-to c = λ v w a b. record {
  pass = c.meet.ensures.to v w a.pass b.pass;
  owned = kept_sharing c.args.self.now c.args.to.now.pass c.meet.new.to c.args.to.now.owned w (having_met w v) b.pass (c.meet.ensures.to v w a.pass b.pass) refl c.meet.ensures.to_owner b.owned;
}
