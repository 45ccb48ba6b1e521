use Rattle.std.proofs.Common.{rules, ◌≡◌, ℤ, inl, refl, subst, arith, pos}
use mir.Syntax.{w64}
use mir.Val.{to_z}
use Rattle.cx_names.specs.declared.Reply.TheVariants as replies
use Rattle.cx_machine.specs.declared.kind.Op.TheVariants as ops
use Rattle.cx_machine.specs.Meaning.{change, look_of}
use Rattle.cx_barrier.specs.Barriers.{BarrierLooks, Counts}
use Rattle.cx_barrier.proofs.barrier.Barrier.arrive_only.Goals as goal

pub arrive_as-requires-clause-word : goal.arrive_as-requires-clause-word
arrive_as-requires-clause-word g c =
    let n : to_z w64 c.args.n ≡ pos c.args.n = search rules in
    inl (refl, (c.args.n, n, c.requires.some, omega (arith, c.ranges.n)))

pub returns-in-Ok-clause-counted : goal.returns-in-Ok-clause-counted
returns-in-Ok-clause-counted g c =
    let n : to_z w64 c.args.n ≡ pos c.args.n = search rules in
    subst (λ (x : ℤ). Counts c.args.self.now c.args.pass.now c.arrive_as.new.pass (change c.args.pass.now.pass.number ops.Arrive x (pos 0) (replies.Number (pos c.in-Ok.phase))) c.in-Ok.counted) n c.in-Ok.ensures.counted

pub returns-in-Err-clause-over : goal.returns-in-Err-clause-over
returns-in-Err-clause-over g c =
    let n : to_z w64 c.args.n ≡ pos c.args.n = search rules in
    subst (λ (x : ℤ). BarrierLooks c.args.self.now c.args.pass.now c.arrive_as.new.pass (look_of c.args.pass.now.pass.number ops.Arrive x (pos 0) replies.OverExpected c.in-Err.over.at)) n c.in-Err.ensures.over
