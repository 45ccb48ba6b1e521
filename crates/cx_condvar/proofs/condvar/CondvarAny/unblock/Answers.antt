use Rattle.std.proofs.Common.{false, refl, subst, pos}
use Rattle.cx_names.specs.declared.Reply.{Reply}
use Rattle.cx_machine.specs.declared.kind.Op.TheVariants as ops
use Rattle.cx_machine.specs.Meaning.{change}
use Rattle.cx_turn.specs.Acts.{Makes}
use Rattle.cx_condvar.specs.Kinds.{waiting}
use Rattle.cx_condvar.proofs.Entering.{unblocks_out}
use Rattle.cx_condvar.proofs.Passes.{stands_then, apart_now, number_on}
use Rattle.cx_condvar.proofs.condvar.CondvarAny.unblock.Goals as goal

pub returns-clause-out : goal.returns-clause-out
returns-clause-out g c =
    let by = c.args.pass.now.number in
    let p = c.requires.pass in
    let r = c.wait_change-at.result.0 in let at = c.wait_change-at.result.1 in
    let d = c.wait_change-at.ensures p.0 p.1 in
    let e = change by ops.Unblock (pos 0) (pos 0) r in
    let once = apart_now c.args.self.now c.args.pass.now c.wait_change-at.new.pass p.0 d.0 p.1 d.1 e at refl d.2 in
    stands_then c.args.self.now c.args.pass.now c.wait_change-at.new.pass p.0 d.0 p.1 d.1 e at refl d.2 false (unblocks_out d.2.now d.2.after by r once d.2.enabled).1

pub returns-clause-made : goal.returns-clause-made
returns-clause-made g c v is =
    let by = c.args.pass.now.number in
    let r = c.wait_change-at.result.0 in let at = c.wait_change-at.result.1 in
    let d = c.wait_change-at.ensures v is in
    let once = apart_now c.args.self.now c.args.pass.now c.wait_change-at.new.pass v d.0 is d.1 (change by ops.Unblock (pos 0) (pos 0) r) at refl d.2 in
    (d.0, d.1, subst (λ (x : Reply). Makes waiting v d.0 (change by ops.Unblock (pos 0) (pos 0) x) at) (unblocks_out d.2.now d.2.after by r once d.2.enabled).0 d.2)

pub returns-clause-number : goal.returns-clause-number
returns-clause-number g c =
    let p = c.requires.pass in
    let d = c.wait_change-at.ensures p.0 p.1 in
    number_on c.args.self.now c.args.pass.now c.wait_change-at.new.pass p.0 d.0 p.1 d.1 (change c.args.pass.now.number ops.Unblock (pos 0) (pos 0) c.wait_change-at.result.0) c.wait_change-at.result.1 refl d.2
