use Rattle.std.proofs.Common.{rules, pos}
use Rattle.cx_machine.specs.declared.kind.Op.TheVariants as ops
use Rattle.cx_barrier.specs.Kinds.{meeting}
use Rattle.cx_kinds.proofs.Asking.{asked_either}
use Rattle.cx_kinds.proofs.barrier.BarrierShared.act.Goals as goal

pub returns-else-n-eq0-clause-did : goal.returns-else-n-eq0-clause-did
returns-else-n-eq0-clause-did g c = λ v a.
    let d = c.arrive.ensures.did v a in
    (d.0, d.1, asked_either meeting c.args.token.now.pass.pass.number ops.Arrive ops.Arrive (pos c.in-Ok.n) (pos 0) c.args.ask v d.0 c.arrive.result (search rules) (search rules) (search rules) (search rules) d.2)

pub returns-in-Some-Drop-Some-Drop-eq0-eq0-clause-did : goal.returns-in-Some-Drop-Some-Drop-eq0-eq0-clause-did
returns-in-Some-Drop-Some-Drop-eq0-eq0-clause-did g c = λ v a.
    let d = c.drop_out.ensures.did v a in
    (d.0, d.1, asked_either meeting c.args.token.now.pass.pass.number ops.Drop ops.Drop (pos 0) (pos 0) c.args.ask v d.0 c.drop_out.result (search rules) (search rules) (search rules) (search rules) d.2)
