use Rattle.std.proofs.Common.{◌≡◌, ◌+◌, ◌++◌, map, drop, true, false, ap, sym, ◌∙◌, append_assoc}
use Rattle.cx_scene.specs.Scene.{scene_of}
use Rattle.cx_items.specs.Next.{offered_by}
use Rattle.cx_items.specs.Steps.{form_of, forms_of, may_be_skipped}
use Rattle.cx_items.proofs.Offers.{forms_last, forms_more}
use Rattle.cx_items.proofs.local.Local.forms_from.Goals as goal

pub returns-then-not-may_be_skipped : goal.returns-then-not-may_be_skipped
returns-then-not-may_be_skipped c = λ t k.
    let s = scene_of c.args.plan.now in
    let last : may_be_skipped c.at-task.result.now ≡ false = sym c.may_be_skipped.ensures ∙ c.if-not-may_be_skipped.true in
    c.in_ok-push_to.ensures ∙ (ap (λ fs. c.loop-depth.out.items ++ fs) (c.forms.ensures ∙ sym (forms_last s t k c.args.self.now.agenda c.loop-depth.depth c.at-task.result.now c.at-task.ensures last)) ∙ sym (c.loop-depth.invariant t k))

pub loop-depth-preserved : goal.loop-depth-preserved
loop-depth-preserved c = λ t k.
    let s = scene_of c.args.plan.now in
    let others = map form_of (offered_by s t k (drop (c.loop-depth.depth + 1) c.args.self.now.agenda)) in
    let more : may_be_skipped c.at-task.result.now ≡ true = sym c.may_be_skipped.ensures ∙ c.if-not-may_be_skipped.false in
    c.loop-depth.invariant t k
    ∙ (ap (λ fs. c.loop-depth.out.items ++ fs) (forms_more s t k c.args.self.now.agenda c.loop-depth.depth c.at-task.result.now c.at-task.ensures more)
    ∙ (sym (append_assoc c.loop-depth.out.items (forms_of s c.at-task.result.now) others)
    ∙ ap (λ fs. fs ++ others) (ap (λ fs. c.loop-depth.out.items ++ fs) (sym c.forms.ensures) ∙ sym c.in_ok-push_to.ensures)))
