use Rattle.std.proofs.Common.{ℕ, ap, sym, ◌∙◌, take, refl, Some}
use Rattle.cx_history.specs.declared.flaw.Cause.TheVariants as causes
use Rattle.cx_history.specs.Histories.{place_from, place_after}
use Rattle.cx_history.specs.Legal.{is_at_least}
use Rattle.cx_checker.specs.Knowledge.{place_in}
use Rattle.cx_history.specs.Flaw.{flaw}
use Rattle.cx_checker.proofs.Firsts.{good_item, bad_item, good_items, at_least_agree, place_more}
use Rattle.cx_checker.proofs.falling.first_fall_in.Goals as goal

pub returns-then-not-good : goal.returns-then-not-good
returns-then-not-good c =
    ap (λ f. Some f) (c.flaw.ensures ∙ ap (flaw causes.Fell c.args.t) c.in_ok-n.ensures)
    ∙ bad_item causes.Fell (λ u i x. is_at_least (λ o. place_from o 0 (take i c.args.list.now)) x) c.args.t c.loop-i.i c.args.list.now c.item_at-item.result _ c.item_at-item.ensures
    (at_least_agree (λ o. place_from o 0 (take c.loop-i.i c.args.list.now)) (place_in c.loop-i.places) c.item_at-item.result (λ o. sym (c.loop-i.invariant.seen o)) ∙ (sym c.allows-good.ensures ∙ c.if-not-good.true))
    c.loop-i.invariant.same

pub loop-i-preserved : goal.loop-i-preserved
loop-i-preserved c = record {
  seen = λ o. c.in_ok-pass.ensures o ∙ (ap (λ p. place_after o p c.item_at-item.result) (c.loop-i.invariant.seen o) ∙ sym (place_more o c.loop-i.i c.args.list.now c.item_at-item.result c.item_at-item.ensures));
  same =
      good_item causes.Fell (λ u i x. is_at_least (λ o. place_from o 0 (take i c.args.list.now)) x) c.args.t c.loop-i.i c.args.list.now c.item_at-item.result _ c.item_at-item.ensures
      (at_least_agree (λ o. place_from o 0 (take c.loop-i.i c.args.list.now)) (place_in c.loop-i.places) c.item_at-item.result (λ o. sym (c.loop-i.invariant.seen o)) ∙ (sym c.allows-good.ensures ∙ c.if-not-good.false))
      c.loop-i.invariant.same;
}

pub returns : goal.returns
returns c = good_items causes.Fell (λ u i x. is_at_least (λ o. place_from o 0 (take i c.args.list.now)) x) c.args.t c.loop-i.i c.args.list.now _ c.loop-i-test.false c.loop-i.invariant.same
