use Rattle.std.proofs.Common.{refl}
use Rattle.cx_turn.specs.Views.{both_of}
use Rattle.cx_kinds.proofs.Executing.{with_running}
use Rattle.cx_kinds.proofs.once.OnceFlagShared.join.Goals as goal

pub returns : goal.returns
returns c = record {
  kept = refl;
  seen = λ v w a b.
      let seen = c.join.ensures.seen v w a.pass b.pass in
      with_running c.args.self.now c.args.token.now.pass c.join.new.pass c.args.token.now.active v (both_of v w) a seen seen.known.met.0 refl refl refl;
}
