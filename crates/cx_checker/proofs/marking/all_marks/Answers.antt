use Rattle.std.proofs.Common.{rules, ap, sym, ◌∙◌, slice_get}
use Rattle.cx_scene.specs.Scene.{scene_of}
use Rattle.cx_history.specs.Views.{recorded_of}
use Rattle.cx_checker.proofs.Marked.{marks_more}
use Rattle.cx_checker.proofs.marking.all_marks.Goals as goal

pub loop-o-preserved : goal.loop-o-preserved
loop-o-preserved c = record {
  long = search rules;
  each = λ q b m got_b got_m.
      marks_more (scene_of c.args.plan.now) (recorded_of c.args.record.now) c.loop-o.all.items (record { marks = c.in_ok-marks.marks }) c.loop-o.o c.args.histories.now c.index-histories-o.result c.index.result.now c.kind-kind.result c.requires c.loop-o-test.true c.index-histories-o.is c.index.ensures c.kind-kind.ensures c.in_ok-marks.ensures c.loop-o.invariant.long c.loop-o.invariant.each q b m got_b
      (ap (λ ys. slice_get ys q) (sym c.in_ok-push.ensures.items) ∙ got_m);
}
