use Rattle.std.proofs.Common.{inr, refl, pos}
use Rattle.cx_names.specs.declared.Reply.TheVariants as replies
use Rattle.cx_machine.specs.declared.kind.Op.TheVariants as ops
use Rattle.cx_machine.specs.Meaning.{change}
use Rattle.cx_barrier.specs.Barriers.{Counts}
use Rattle.cx_barrier.proofs.Going.{if_there}
use Rattle.cx_barrier.proofs.barrier.Barrier.drop_only.Goals as goal

pub arrive_as-requires-clause-word : goal.arrive_as-requires-clause-word
arrive_as-requires-clause-word g c = inr (refl, refl)

pub returns-in-Ok-clause-counted : goal.returns-in-Ok-clause-counted
returns-in-Ok-clause-counted g c = if_there (λ p. Counts c.args.self.now c.args.pass.now c.arrive_as.new.pass (change c.args.pass.now.pass.number ops.Drop (pos 0) (pos 0) (replies.Number (pos p))) c.in-Ok.counted) _ _ c.in-Ok.ensures.phase c.in-Ok.ensures.counted
