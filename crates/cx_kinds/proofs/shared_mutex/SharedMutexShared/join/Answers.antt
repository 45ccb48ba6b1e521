use Rattle.cx_turn.specs.Views.{both_of}
use Rattle.std.proofs.Common.{refl}
use Rattle.cx_kinds.proofs.Holding.{kept_sharing}
use Rattle.cx_kinds.proofs.shared_mutex.SharedMutexShared.join.Goals as goal

pub returns : goal.returns
returns c = record {
  kept = refl;
  seen = λ v w a b. record {
    pass = c.join.ensures.seen v w a.pass b.pass;
    owned = kept_sharing c.args.self.now c.args.token.now.pass c.join.new.pass c.args.token.now.owned v (both_of v w) a.pass (c.join.ensures.seen v w a.pass b.pass) refl c.join.ensures.owner a.owned;
  };
}
