use Rattle.std.proofs.Common.{◌∙◌, true, false, refl, sym, subst, pos}
use Rattle.cx_names.specs.declared.Reply.{Reply}
use Rattle.cx_machine.specs.declared.kind.Op.TheVariants as ops
use Rattle.cx_machine.specs.Meaning.{change}
use Rattle.cx_turn.specs.Acts.{Makes}
use Rattle.cx_condvar.specs.Kinds.{waiting}
use Rattle.cx_condvar.proofs.Entering.{withdraws_out, was_notified}
use Rattle.cx_condvar.proofs.Passes.{stands_then, stands_found, stays_found, apart_now, found_same, number_on}
use Rattle.cx_condvar.proofs.condvar.CondvarAny.withdraw.Goals as goal

pub returns-in-Some-clause-out : goal.returns-in-Some-clause-out
returns-in-Some-clause-out g c =
    let by = c.args.pass.now.number in
    let p = c.requires.pass in
    let r = c.in-Some.field-0-0 in
    let d = c.in-Some.ensures.made p.0 p.1 in
    let e = change by ops.Withdraw (pos 0) (pos 0) r in
    let once = apart_now c.args.self.now c.args.pass.now c.try_change.new.pass p.0 d.0 p.1 d.1 e c.in-Some.at refl d.2 in
    stands_then c.args.self.now c.args.pass.now c.try_change.new.pass p.0 d.0 p.1 d.1 e c.in-Some.at refl d.2 false (withdraws_out d.2.now d.2.after by r once d.2.enabled).1

pub returns-in-Some-clause-made : goal.returns-in-Some-clause-made
returns-in-Some-clause-made g c v is =
    let by = c.args.pass.now.number in
    let r = c.in-Some.field-0-0 in
    let d = c.in-Some.ensures.made v is in
    let once = apart_now c.args.self.now c.args.pass.now c.try_change.new.pass v d.0 is d.1 (change by ops.Withdraw (pos 0) (pos 0) r) c.in-Some.at refl d.2 in
    (d.0, d.1, subst (λ (x : Reply). Makes waiting v d.0 (change by ops.Withdraw (pos 0) (pos 0) x) c.in-Some.at) (withdraws_out d.2.now d.2.after by r once d.2.enabled).0 d.2)

pub returns-in-None-clause-entered : goal.returns-in-None-clause-entered
returns-in-None-clause-entered g c =
    let p = c.requires.pass in
    let f = c.in-None.ensures.none p.0 p.1 in
    (c.requires.entered.0 ∙ sym (found_same c.args.self.now c.args.pass.now c.try_change.new.pass p.0 f.0 p.1 f.1 _ f.2), stays_found c.args.self.now c.args.pass.now c.try_change.new.pass p.0 f.0 p.1 f.1 _ f.2 true c.requires.entered.1)

pub returns-in-None-clause-notified : goal.returns-in-None-clause-notified
returns-in-None-clause-notified g c v is =
    let f = c.in-None.ensures.none v is in
    let in_ = stands_found c.args.self.now c.args.pass.now c.try_change.new.pass v f.0 is f.1 _ f.2 true c.requires.entered.1 in
    (f.0, f.1, record { now = f.2.now; later = f.2.later; leads = f.2.leads; holds = was_notified f.2.now c.args.pass.now.number in_ f.2.holds; view = f.2.view })

pub returns-in-Some-clause-number : goal.returns-in-Some-clause-number
returns-in-Some-clause-number g c =
    let p = c.requires.pass in
    let d = c.in-Some.ensures.made p.0 p.1 in
    number_on c.args.self.now c.args.pass.now c.try_change.new.pass p.0 d.0 p.1 d.1 (change c.args.pass.now.number ops.Withdraw (pos 0) (pos 0) c.in-Some.field-0-0) c.in-Some.at refl d.2

pub returns-in-None-clause-number : goal.returns-in-None-clause-number
returns-in-None-clause-number g c =
    let p = c.requires.pass in
    let f = c.in-None.ensures.none p.0 p.1 in
    found_same c.args.self.now c.args.pass.now c.try_change.new.pass p.0 f.0 p.1 f.1 _ f.2
