use Rattle.std.proofs.Common.{◌∙◌, pos, refl, sym, ap, subst}
use Rattle.cx_names.specs.declared.Reply.{Reply}
use Rattle.cx_names.specs.declared.Reply.TheVariants as replies
use Rattle.cx_machine.specs.declared.kind.Op.TheVariants as ops
use Rattle.cx_machine.specs.Meaning.{change, look_of}
use Rattle.cx_turn.specs.Acts.{Makes}
use Rattle.cx_barrier.specs.Kinds.{meeting}
use Rattle.cx_kinds.proofs.Owing.{counted_owing, looked_owing}
use Rattle.cx_kinds.proofs.barrier.arrive.Goals as goal

pub returns-in-Ok : goal.returns-in-Ok
returns-in-Ok g c = record {
  did = λ v a.
      let old = c.args.token.now in
      let d = counted_owing c.args.barrier.now old.pass c.arrive_only.new.pass old.completing (change old.pass.pass.number ops.Arrive (pos c.args.n) (pos 0) (replies.Number (pos c.in-Ok.arrival.phase))) c.in-Ok.counted refl c.in-Ok.ensures.counted v a in
      let reply = c.reply_in.ensures ∙ ap (λ p. replies.Number (pos p)) c.phase.ensures in
      (d.0, d.1, subst (λ (r : Reply). Makes meeting v d.0 (change old.pass.pass.number ops.Arrive (pos c.args.n) (pos 0) r) c.in-Ok.counted.at) (sym reply) d.2);
}

pub returns-in-Err : goal.returns-in-Err
returns-in-Err g c = record {
  did = λ v a.
      let old = c.args.token.now in
      let d = c.in-Err.ensures.over v a.pass in
      (d.0, looked_owing c.args.barrier.now old.pass c.arrive_only.new.pass old.completing v d.0 (look_of old.pass.pass.number ops.Arrive (pos c.args.n) (pos 0) replies.OverExpected c.in-Err.over.at) a d.1 d.2, d.2);
}
