use Rattle.std.proofs.Common.{arith, pos}
use Rattle.cx_names.specs.declared.Reply.TheVariants as replies
use Rattle.cx_machine.specs.declared.kind.Op.TheVariants as ops
use Rattle.cx_machine.specs.Meaning.{change}
use Rattle.cx_sync.proofs.Executions.{executes}
use Rattle.cx_sync.proofs.once.OnceFlag.call_once.Goals as goal

pub returns-in-Ok-clause-called : goal.returns-in-Ok-clause-called
returns-in-Ok-clause-called g c =
    let b = c.in-Active.ensures.begun in
    let one = b.0 in
    let two = c.finish.ensures.left in
    (omega (arith, one, two), c.in-Ok.ensures, executes c.args.self.now c.args.pass.now c.begin.new.pass c.finish.new.pass c.in-Active.began c.finish.result (λ t. change t ops.Finish (pos 0) (pos 0) replies.Ok) b.2 c.finish.ensures.made)

pub returns-in-Err-clause-called : goal.returns-in-Err-clause-called
returns-in-Err-clause-called g c =
    let b = c.in-Active.ensures.begun in
    let one = b.0 in
    let two = c.fail.ensures.left in
    (omega (arith, one, two), c.in-Err.ensures, executes c.args.self.now c.args.pass.now c.begin.new.pass c.fail.new.pass c.in-Active.began c.fail.result (λ t. change t ops.Fail (pos c.in-Err.error) (pos 0) replies.Ok) b.2 c.fail.ensures.made)

pub function-requires : goal.function-requires
function-requires g c = c.requires.function c.begin.new.pass c.in-Active.active c.in-Active.ensures.idle c.in-Active.ensures.begun.1
