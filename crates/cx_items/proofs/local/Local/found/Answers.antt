use Rattle.std.proofs.Common.{◌≡◌, Some, None, true, false, arith, ap, sym, ◌∙◌}
use Rattle.cx_scene.specs.Scene.{scene_of}
use Rattle.cx_items.specs.Steps.{local_of, forms_of, first_fit, may_be_skipped}
use Rattle.cx_items.proofs.Offers.{found_here, found_later, found_none}
use Rattle.cx_items.proofs.local.Local.found.Goals as goal

pub returns-in-Some : goal.returns-in-Some
returns-in-Some c =
    let s = scene_of c.args.plan.now in
    let k = local_of s c.args.t.0 c.args.self.now in
    let fit : first_fit s (forms_of s c.at-task.result.now) c.args.item ≡ Some c.in-Some.fit = sym (ap (λ fs. first_fit s fs c.args.item) c.forms.ensures) ∙ (sym c.first_fit.ensures ∙ c.in-Some.is) in
    (omega arith, c.loop-skipped.invariant ∙ found_here s c.args.t.0 k c.args.item c.args.self.now.agenda c.loop-skipped.skipped c.at-task.result.now c.in-Some.fit c.at-task.ensures fit)

pub returns-then-not-may_be_skipped : goal.returns-then-not-may_be_skipped
returns-then-not-may_be_skipped c =
    let s = scene_of c.args.plan.now in
    let k = local_of s c.args.t.0 c.args.self.now in
    let none_fits : first_fit s (forms_of s c.at-task.result.now) c.args.item ≡ None = sym (ap (λ fs. first_fit s fs c.args.item) c.forms.ensures) ∙ (sym c.first_fit.ensures ∙ c.in-None.is) in
    let last : may_be_skipped c.at-task.result.now ≡ false = sym c.may_be_skipped.ensures ∙ c.if-not-may_be_skipped.true in
    c.loop-skipped.invariant ∙ found_none s c.args.t.0 k c.args.item c.args.self.now.agenda c.loop-skipped.skipped c.at-task.result.now c.at-task.ensures none_fits last

pub loop-skipped-preserved : goal.loop-skipped-preserved
loop-skipped-preserved c =
    let s = scene_of c.args.plan.now in
    let k = local_of s c.args.t.0 c.args.self.now in
    let none_fits : first_fit s (forms_of s c.at-task.result.now) c.args.item ≡ None = sym (ap (λ fs. first_fit s fs c.args.item) c.forms.ensures) ∙ (sym c.first_fit.ensures ∙ c.in-None.is) in
    let more : may_be_skipped c.at-task.result.now ≡ true = sym c.may_be_skipped.ensures ∙ c.if-not-may_be_skipped.false in
    c.loop-skipped.invariant ∙ found_later s c.args.t.0 k c.args.item c.args.self.now.agenda c.loop-skipped.skipped c.at-task.result.now c.at-task.ensures none_fits more
