use Rattle.std.proofs.Common.{ap, sym, ◌∙◌, ◌+◌, ◌++◌, Some, drop}
use Rattle.cx_scene.specs.Scene.{scene_of}
use Rattle.cx_history.specs.declared.flaw.Cause.TheVariants as causes
use Rattle.cx_history.specs.Legal.{is_shown}
use Rattle.cx_history.specs.Flaw.{flaw}
use Rattle.cx_history.specs.Views.{recorded_of}
use Rattle.cx_checker.specs.Looks.{looks_in}
use Rattle.cx_checker.proofs.Firsts.{good_item, bad_item, good_items}
use Rattle.cx_checker.proofs.Telling.{list_tells, list_told}
use Rattle.cx_checker.proofs.verdicts.first_unshown_in.Goals as goal

pub returns-then-not-good : goal.returns-then-not-good
returns-then-not-good c = record {
  count = c.is_good-good.ensures.count ∙ c.loop-i.invariant.count;
  first = λ rest tell.
      ap (λ f. Some f) (c.flaw.ensures ∙ ap (flaw causes.Shown c.args.t) c.in_ok-n.ensures)
      ∙ bad_item causes.Shown (λ u i x. is_shown (scene_of c.args.plan.now) (recorded_of c.args.record.now) x) c.args.t c.loop-i.i c.args.list.now c.item_at-item.result _ c.item_at-item.ensures
      (sym (c.is_good-good.ensures.good (λ q. looks_in q (drop (c.loop-i.i + 1) c.args.list.now) ++ rest q) (list_tells (scene_of c.args.plan.now) (recorded_of c.args.record.now) c.loop-i.all.items c.loop-i.i c.args.list.now c.item_at-item.result rest c.item_at-item.ensures (c.loop-i.invariant.tell rest tell))) ∙ c.if-not-good.true) (c.loop-i.invariant.same rest tell);
  rest = λ rest tell none. cc;
}

pub loop-i-preserved : goal.loop-i-preserved
loop-i-preserved c = record {
  count = c.is_good-good.ensures.count ∙ c.loop-i.invariant.count;
  tell = λ rest tell. c.is_good-good.ensures.rest (λ q. looks_in q (drop (c.loop-i.i + 1) c.args.list.now) ++ rest q) (list_tells (scene_of c.args.plan.now) (recorded_of c.args.record.now) c.loop-i.all.items c.loop-i.i c.args.list.now c.item_at-item.result rest c.item_at-item.ensures (c.loop-i.invariant.tell rest tell));
  same = λ rest tell.
      good_item causes.Shown (λ u i x. is_shown (scene_of c.args.plan.now) (recorded_of c.args.record.now) x) c.args.t c.loop-i.i c.args.list.now c.item_at-item.result _ c.item_at-item.ensures
      (sym (c.is_good-good.ensures.good (λ q. looks_in q (drop (c.loop-i.i + 1) c.args.list.now) ++ rest q) (list_tells (scene_of c.args.plan.now) (recorded_of c.args.record.now) c.loop-i.all.items c.loop-i.i c.args.list.now c.item_at-item.result rest c.item_at-item.ensures (c.loop-i.invariant.tell rest tell))) ∙ c.if-not-good.false) (c.loop-i.invariant.same rest tell);
}

pub returns : goal.returns
returns c = record {
  count = c.loop-i.invariant.count;
  first = λ rest tell. good_items causes.Shown (λ u i x. is_shown (scene_of c.args.plan.now) (recorded_of c.args.record.now) x) c.args.t c.loop-i.i c.args.list.now _ c.loop-i-test.false (c.loop-i.invariant.same rest tell);
  rest = λ rest tell none. list_told (scene_of c.args.plan.now) (recorded_of c.args.record.now) c.loop-i.all.items c.loop-i.i c.args.list.now rest c.loop-i-test.false (c.loop-i.invariant.tell rest tell);
}
