use Rattle.std.proofs.Common.{rules, pos}
use Rattle.cx_machine.specs.declared.kind.Op.TheVariants as ops
use Rattle.cx_sync.specs.Kinds.{executing}
use Rattle.cx_kinds.proofs.Asking.{asked_either}
use Rattle.cx_kinds.proofs.once.OnceFlagShared.act.Goals as goal

pub returns-in-Some-Begin-Some-Passive-eq0-eq0-clause-did : goal.returns-in-Some-Begin-Some-Passive-eq0-eq0-clause-did
returns-in-Some-Begin-Some-Passive-eq0-eq0-clause-did g c = λ v a.
    let d = c.begin.ensures.did v a in
    (d.0, d.1, asked_either executing c.args.token.now.pass.number ops.Begin ops.Passive (pos 0) (pos 0) c.args.ask v d.0 c.begin.result (search rules) (search rules) (search rules) (search rules) d.2)
