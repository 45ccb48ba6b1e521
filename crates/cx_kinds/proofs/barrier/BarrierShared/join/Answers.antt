use Rattle.std.proofs.Common.{refl}
use Rattle.cx_turn.specs.Views.{both_of}
use Rattle.cx_kinds.proofs.Owing.{with_owing}
use Rattle.cx_kinds.proofs.barrier.BarrierShared.join.Goals as goal

pub returns : goal.returns
returns c = record {
  kept = refl;
  seen = λ v w a b.
      let seen = c.join.ensures.seen v w a.pass b.pass in
      with_owing c.args.self.now c.args.token.now.pass c.join.new.pass c.args.token.now.completing v (both_of v w) a seen seen.pass.known.met.0 refl refl refl;
}
