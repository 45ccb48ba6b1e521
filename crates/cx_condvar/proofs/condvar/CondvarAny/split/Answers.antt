use Rattle.std.proofs.Common.{refl}
use Rattle.cx_turn.specs.Views.{split_left, split_right}
use Rattle.cx_turn.proofs.Histories.{prefix_refl}
use Rattle.cx_condvar.proofs.Passes.{is_out, stays}
use Rattle.cx_condvar.proofs.condvar.CondvarAny.split.Goals as goal

pub returns-clause-same : goal.returns-clause-same
returns-clause-same c =
    let p = c.requires.pass in
    stays c.args.self.now c.args.first.now c.split.new.first p.0 (split_left p.0 c.args.calls) p.1 (c.split.ensures.first p.0 p.1) (prefix_refl p.0.front) refl refl

pub returns-clause-out : goal.returns-clause-out
returns-clause-out c =
    let p = c.requires.pass in
    is_out c.args.self.now c.split.result (split_right p.0 c.args.calls) (c.split.ensures.second p.0 p.1) refl
