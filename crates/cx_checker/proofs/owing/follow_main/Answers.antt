use Rattle.std.proofs.Common.{ap, sym, ◌∙◌, Some, slice_get, length, arith, ◌≡◌, ◌≤◌, ℕ, subst}
use Rattle.cx_history.specs.declared.flaw.Cause.TheVariants as causes
use Rattle.cx_history.specs.Histories.{Knowing, list_of, knowing, knows_after, owed}
use Rattle.cx_history.specs.Legal.{is_at_least}
use Rattle.cx_history.specs.Flaw.{flaw}
use Rattle.cx_history.specs.Views.{recorded_of}
use Rattle.cx_checker.specs.Knowledge.{place_in}
use Rattle.cx_checker.proofs.Firsts.{good_item, bad_item, good_items, at_least_agree}
use Rattle.cx_checker.proofs.Knowing.{knows_more}
use Rattle.cx_checker.proofs.owing.follow_main.Goals as goal

pub returns-then-not-good : goal.returns-then-not-good
returns-then-not-good c =
    ap (λ f. Some f) (c.flaw.ensures ∙ ap (flaw causes.Order 0) c.in_ok-n.ensures)
    ∙ bad_item causes.Order (λ t i x. is_at_least (owed (recorded_of c.args.record.now) t i) x) 0 c.loop-i.i (list_of (recorded_of c.args.record.now) 0) c.item_at-item.result _ (ap (λ xs. slice_get xs c.loop-i.i) (sym c.list_at-list.ensures) ∙ c.item_at-item.ensures) (at_least_agree (owed (recorded_of c.args.record.now) 0 c.loop-i.i) (place_in c.loop-i.known.owed) c.item_at-item.result (λ o. ap (λ (q : Knowing). q.owed) (sym (c.loop-i.invariant.knows o))) ∙ (sym c.allows-good.ensures ∙ c.if-not-good.true)) c.loop-i.invariant.same

pub loop-i-preserved : goal.loop-i-preserved
loop-i-preserved c = record {
  knows = λ o. c.in_ok-pass.ensures o ∙ (ap (λ k. knows_after (recorded_of c.args.record.now) o k c.item_at-item.result) (c.loop-i.invariant.knows o) ∙ sym (knows_more (recorded_of c.args.record.now) o c.loop-i.i c.item_at-item.result (ap (λ xs. slice_get xs c.loop-i.i) (sym c.list_at-list.ensures) ∙ c.item_at-item.ensures)));
  same = good_item causes.Order (λ t i x. is_at_least (owed (recorded_of c.args.record.now) t i) x) 0 c.loop-i.i (list_of (recorded_of c.args.record.now) 0) c.item_at-item.result _ (ap (λ xs. slice_get xs c.loop-i.i) (sym c.list_at-list.ensures) ∙ c.item_at-item.ensures) (at_least_agree (owed (recorded_of c.args.record.now) 0 c.loop-i.i) (place_in c.loop-i.known.owed) c.item_at-item.result (λ o. ap (λ (q : Knowing). q.owed) (sym (c.loop-i.invariant.knows o))) ∙ (sym c.allows-good.ensures ∙ c.if-not-good.false)) c.loop-i.invariant.same;
}

pub returns : goal.returns
returns c =
    let same_length = ap length c.list_at-list.ensures in
    let past : length (list_of (recorded_of c.args.record.now) 0) ≤ c.loop-i.i = subst (λ (n : ℕ). n ≤ c.loop-i.i) same_length c.loop-i-test.false in
    let end : c.loop-i.i ≡ length (list_of (recorded_of c.args.record.now) 0) = omega (arith, same_length, c.loop-i-test.false, c.loop-i.auto.i-end) in (
      sym (good_items causes.Order (λ t i x. is_at_least (owed (recorded_of c.args.record.now) t i) x) 0 c.loop-i.i (list_of (recorded_of c.args.record.now) 0) _ past c.loop-i.invariant.same),
      λ o. c.loop-i.invariant.knows o ∙ ap (λ n. knowing (recorded_of c.args.record.now) n o) end,
    )
