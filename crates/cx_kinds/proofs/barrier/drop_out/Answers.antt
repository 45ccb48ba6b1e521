use Rattle.std.proofs.Common.{ℕ, pos, Option, IfSome, refl, sym, subst}
use Rattle.cx_names.specs.declared.Reply.{Reply}
use Rattle.cx_names.specs.declared.Reply.TheVariants as replies
use Rattle.cx_machine.specs.declared.kind.Op.TheVariants as ops
use Rattle.cx_machine.specs.Meaning.{change, look_of}
use Rattle.cx_turn.specs.Acts.{Makes}
use Rattle.cx_barrier.specs.Kinds.{meeting}
use Rattle.cx_barrier.specs.Barriers.{Counts}
use Rattle.cx_kinds.proofs.Owing.{counted_owing, looked_owing}
use Rattle.cx_kinds.proofs.barrier.drop_out.Goals as goal

pub returns-in-Ok : goal.returns-in-Ok
returns-in-Ok g c = record {
  did = λ v a.
      let old = c.args.token.now in
      let counts = subst (λ (o : Option ℕ). IfSome o (λ p. Counts c.args.barrier.now old.pass c.drop_only.new.pass (change old.pass.pass.number ops.Drop (pos 0) (pos 0) (replies.Number (pos p))) c.in-Ok.counted)) c.phase.ensures c.in-Ok.ensures.counted in
      let d = counted_owing c.args.barrier.now old.pass c.drop_only.new.pass old.completing (change old.pass.pass.number ops.Drop (pos 0) (pos 0) (replies.Number (pos c.phase.result))) c.in-Ok.counted refl counts v a in
      (d.0, d.1, subst (λ (r : Reply). Makes meeting v d.0 (change old.pass.pass.number ops.Drop (pos 0) (pos 0) r) c.in-Ok.counted.at) (sym c.reply_in.ensures) d.2);
}

pub returns-in-Err : goal.returns-in-Err
returns-in-Err g c = record {
  did = λ v a.
      let old = c.args.token.now in
      let d = c.in-Err.ensures.over v a.pass in
      (d.0, looked_owing c.args.barrier.now old.pass c.drop_only.new.pass old.completing v d.0 (look_of old.pass.pass.number ops.Drop (pos 0) (pos 0) replies.OverExpected c.in-Err.over.at) a d.1 d.2, d.2);
}
