use Rattle.std.proofs.Common.{◌∙◌, refl, pos}
use Rattle.cx_names.specs.declared.Reply.TheVariants as replies
use Rattle.cx_machine.specs.declared.kind.Op.TheVariants as ops
use Rattle.cx_machine.specs.Meaning.{change}
use Rattle.cx_barrier.specs.Barriers.{Counts}
use Rattle.cx_barrier.proofs.Going.{arrives, if_there, there}
use Rattle.cx_barrier.proofs.barrier.Barrier.arrive_and_drop.Goals as goal

pub end_phase-completed-requires-clause-completing : goal.end_phase-completed-requires-clause-completing
end_phase-completed-requires-clause-completing g c =
    let t = there (λ p. Counts c.args.self.now c.args.pass.now c.drop_only.new.pass (change c.args.pass.now.pass.number ops.Drop (pos 0) (pos 0) (replies.Number (pos p))) c.in-Ok.counted) c.drop_only.new.pass.phase c.in-Ok.ensures.phase c.in-Ok.ensures.counted in
    t.holds.0

pub returns-in-Ok-clause-arrived : goal.returns-in-Ok-clause-arrived
returns-in-Ok-clause-arrived g c =
    let t = there (λ p. Counts c.args.self.now c.args.pass.now c.drop_only.new.pass (change c.args.pass.now.pass.number ops.Drop (pos 0) (pos 0) (replies.Number (pos p))) c.in-Ok.counted) c.drop_only.new.pass.phase c.in-Ok.ensures.phase c.in-Ok.ensures.counted in
    let e = c.end_phase-completed.ensures in
    if_there _ c.end_phase-completed.new.pass.phase t.number (e.phase ∙ t.is) (arrives c.args.self.now c.args.pass.now c.drop_only.new.pass c.end_phase-completed.new.pass _ c.in-Ok.counted c.end_phase-completed.result _ refl refl t.holds e.last e.ended)
