use Rattle.std.proofs.Common.{◌+◌, refl, arith}
use Rattle.cx_turn.specs.Views.{split_left, split_right}
use Rattle.cx_turn.proofs.Histories.{prefix_refl}
use Rattle.cx_kinds.proofs.Owing.{with_owing, never_owing}
use Rattle.cx_kinds.proofs.barrier.BarrierShared.split.Goals as goal

pub returns-clause-first : goal.returns-clause-first
returns-clause-first c = λ v a. with_owing c.args.self.now c.args.first.now.pass c.split.new.first c.args.first.now.completing v (split_left v c.args.calls) a (c.split.ensures.first v a.pass) (prefix_refl v.front) refl refl refl

pub returns-clause-second : goal.returns-clause-second
returns-clause-second c = λ v a.
    let room = c.requires.room v a in
    let known = a.pass.pass.known in record {
      pass = c.split.ensures.second v a.pass;
      own = tt;
      owing = never_owing (split_right v c.args.calls) a.opened (known.above a.pass.pass.counts room.first (v.splits + 1) (omega arith));
      opened = a.opened;
    }
