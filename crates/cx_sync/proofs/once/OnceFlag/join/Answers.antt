use Rattle.std.proofs.Common.{refl}
use Rattle.cx_turn.specs.Views.{both_of}
use Rattle.cx_sync.proofs.Executions.{keeps_active}
use Rattle.cx_sync.proofs.once.OnceFlag.join.Goals as goal

pub returns-clause-active : goal.returns-clause-active
returns-clause-active c =
    let p = c.requires.pass in let o = c.requires.other in
    let q = c.join.ensures p.0 o.0 p.1 o.1 in
    keeps_active c.args.self.now c.args.pass.now c.join.new.pass p.0 (both_of p.0 o.0) p.1 q q.known.met.0 refl refl refl
