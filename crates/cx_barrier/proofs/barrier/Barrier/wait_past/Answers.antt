use Rattle.std.proofs.Common.{rules, ◌≡◌, ℤ, refl, subst, pos}
use mir.Syntax.{w64}
use mir.Val.{to_z}
use Rattle.cx_names.specs.declared.Reply.{Reply}
use Rattle.cx_machine.specs.declared.kind.Op.TheVariants as ops
use Rattle.cx_machine.specs.Meaning.{look_of}
use Rattle.cx_turn.specs.Acts.{Looks}
use Rattle.cx_barrier.specs.Kinds.{meeting}
use Rattle.cx_barrier.proofs.Arrivals.{waits_so}
use Rattle.cx_barrier.proofs.Passing.{looks_on, same_left}
use Rattle.cx_barrier.proofs.barrier.Barrier.wait_past.Goals as goal

pub returns-clause-idle : goal.returns-clause-idle
returns-clause-idle g c =
    let p = c.requires in
    let q = c.wait_look-at.ensures p.0 p.1.pass in
    (q.0, looks_on c.args.self.now c.args.pass.now c.wait_look-at.new.pass p.0 q.0 p.1 q.1 _ refl _ q.2 refl)

pub returns-clause-same : goal.returns-clause-same
returns-clause-same g c =
    let p = c.requires in
    let q = c.wait_look-at.ensures p.0 p.1.pass in
    (same_left c.args.self.now c.args.pass.now c.wait_look-at.new.pass p.0 q.0 p.1 q.1 (record { pass = c.wait_look-at.new.pass; phase = c.args.pass.now.phase }) refl _ q.2, refl)

pub returns-clause-seen : goal.returns-clause-seen
returns-clause-seen g c v is =
    let by = c.args.pass.now.pass.number in
    let n : to_z w64 c.args.phase ≡ pos c.args.phase = search rules in
    let r = c.wait_look-at.result.0 in let at = c.wait_look-at.result.1 in
    let q = c.wait_look-at.ensures v is.pass in (
      q.0,
      looks_on c.args.self.now c.args.pass.now c.wait_look-at.new.pass v q.0 is q.1 _ refl _ q.2 refl,
      subst (λ (x : ℤ × Reply). Looks meeting v q.0 (look_of by ops.Wait x.0 (pos 0) x.1 at)) (λ i. (n i, waits_so q.2.now by (to_z w64 c.args.phase) r at q.2.shown i)) q.2,
    )

pub wait_look-at-requires : goal.wait_look-at-requires
wait_look-at-requires g c = let p = c.requires in record { pass = (p.0, p.1.pass) }
