use Rattle.std.proofs.Common.{◌∙◌, subst, pos}
use Rattle.cx_names.specs.declared.ThreadNo.{ThreadNo}
use Rattle.cx_names.specs.declared.Reply.TheVariants as replies
use Rattle.cx_machine.specs.declared.kind.Op.TheVariants as ops
use Rattle.cx_machine.specs.Meaning.{look_of}
use Rattle.cx_turn.specs.Acts.{Looks}
use Rattle.cx_barrier.specs.Kinds.{meeting}
use Rattle.cx_barrier.specs.Arriving.{ArrivesAndWaits}
use Rattle.cx_barrier.proofs.Going.{if_there, went_on}
use Rattle.cx_barrier.proofs.barrier.Barrier.arrive_and_wait.Goals as goal

pub returns-in-Ok-clause-arrived : goal.returns-in-Ok-clause-arrived
returns-in-Ok-clause-arrived g c =
    if_there (λ p. ArrivesAndWaits c.args.self.now c.args.pass.now c.wait.new.pass p c.in-Ok.arrived c.wait.result) c.wait.new.pass.phase c.in-Ok.arrival.phase (c.wait.ensures.same.1 ∙ c.in-Ok.ensures.phase)
    (λ v is.
    let a = c.in-Ok.ensures.arrived v is in
    let l = c.wait.ensures.seen a.0 a.1 in
    (a.0, l.0, l.1, a.2, subst (λ (x : ThreadNo). Looks meeting a.0 l.0 (look_of x ops.Wait (pos c.in-Ok.arrival.phase) (pos 0) replies.Ok c.wait.result)) (went_on c.args.self.now c.args.pass.now c.arrive.new.pass v a.0 _ _ c.in-Ok.arrived.at c.in-Ok.arrived.completed is a.1 a.2) l.2))
