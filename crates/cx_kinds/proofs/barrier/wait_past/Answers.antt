use Rattle.std.proofs.Common.{rules, ◌≡◌, ℤ, pos, subst}
use Rattle.cx_names.specs.declared.Reply.TheVariants as replies
use Rattle.cx_machine.specs.declared.kind.Op.TheVariants as ops
use Rattle.cx_machine.specs.Meaning.{look_of}
use Rattle.cx_turn.specs.Acts.{Looks}
use Rattle.cx_barrier.specs.Kinds.{meeting}
use Rattle.cx_kinds.proofs.Owing.{looked_owing}
use Rattle.cx_kinds.proofs.barrier.wait_past.Goals as goal

pub returns-in-Ok : goal.returns-in-Ok
returns-in-Ok g c = record {
  did = λ v a.
      let old = c.args.token.now in
      let d = c.wait_past.ensures.seen v a.pass in
      let phase : pos c.in-Ok.phase ≡ c.args.phase = search rules in
      let look = subst (λ (z : ℤ). Looks meeting v d.0 (look_of old.pass.pass.number ops.Wait z (pos 0) replies.Ok c.wait_past.result)) phase d.2 in
      (d.0, looked_owing c.args.barrier.now old.pass c.wait_past.new.pass old.completing v d.0 (look_of old.pass.pass.number ops.Wait c.args.phase (pos 0) replies.Ok c.wait_past.result) a d.1 look, look);
}
