use Rattle.std.proofs.Common.{refl}
use Rattle.cx_turn.specs.Views.{split_left}
use Rattle.cx_turn.proofs.Histories.{prefix_refl}
use Rattle.cx_sync.proofs.Executions.{keeps_active}
use Rattle.cx_sync.proofs.once.OnceFlag.split.Goals as goal

pub returns-clause-active : goal.returns-clause-active
returns-clause-active c =
    let p = c.requires.pass in
    keeps_active c.args.self.now c.args.first.now c.split.new.first p.0 (split_left p.0 c.args.calls) p.1 (c.split.ensures.first p.0 p.1) (prefix_refl p.0.front) refl refl refl
