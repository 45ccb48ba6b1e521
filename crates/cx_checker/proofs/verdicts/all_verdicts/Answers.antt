use Rattle.std.proofs.Common.{rules, ap, sym, ◌∙◌, refl, subst, length, arith, ◌<◌, ℕ, List}
use Rattle.cx_scene.specs.Scene.{scene_of}
use Rattle.cx_history.specs.Views.{recorded_of}
use Rattle.cx_checker.specs.Looks.{looks_from, Tell}
use Rattle.cx_checker.proofs.ByObjects.{gapless_here, steps_here}
use Rattle.cx_checker.proofs.Telling.{verdicts_more, tell_none}
use Rattle.cx_checker.proofs.verdicts.all_verdicts.Goals as goal

pub loop-o-init : goal.loop-o-init
loop-o-init c = record { count = search rules; tell = tell_none (scene_of c.args.plan.now) (recorded_of c.args.record.now) c.new-all.result.items _ c.new-all.ensures.items }

pub looks_of-seen-requires : goal.looks_of-seen-requires
looks_of-seen-requires c = omega (arith, c.loop-o-test.true, c.requires.histories.count_is, c.requires.looks)

pub verdicts_on-requires : goal.verdicts_on-requires
verdicts_on-requires c = record {
  gapless = gapless_here (recorded_of c.args.record.now) c.loop-o.o c.args.plan.now.objects.items c.args.histories.now c.index-histories-o.result c.requires.histories c.loop-o-test.true c.index-histories-o.is c.requires.gapless;
  stepwise = steps_here (recorded_of c.args.record.now) c.loop-o.o c.args.plan.now.objects.items c.index.result.now c.args.histories.now c.index-histories-o.result c.kind-kind.result c.requires.histories c.loop-o-test.true c.index.ensures c.index-histories-o.is c.kind-kind.ensures c.requires.stepwise;
}

pub loop-o-preserved : goal.loop-o-preserved
loop-o-preserved c =
    let low : c.loop-o.o < length c.args.plan.now.objects.items = omega (arith, c.loop-o-test.true, c.requires.histories.count_is) in
    record {
      count = search rules;
      tell = subst (λ vs. Tell (scene_of c.args.plan.now) (recorded_of c.args.record.now) vs (λ q. looks_from q (recorded_of c.args.record.now).lists)) (sym c.in_ok-push.ensures.items)
          (verdicts_more (scene_of c.args.plan.now) (recorded_of c.args.record.now) c.loop-o.all.items (record { verdicts = c.in_ok-verdicts.verdicts; next = 0 }) c.loop-o.o c.args.histories.now c.index-histories-o.result c.index.result.now c.kind-kind.result c.looks_of-seen.result.now c.requires.histories c.loop-o-test.true c.index-histories-o.is c.index.ensures c.kind-kind.ensures (c.looks_of-seen.ensures ∙ c.requires.each c.loop-o.o low) c.in_ok-verdicts.ensures refl c.loop-o.invariant.count c.loop-o.invariant.tell);
    }
