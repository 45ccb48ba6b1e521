use Rattle.cx_scene.specs.Scene.{scene_of}
use Rattle.cx_replay.specs.Views.{world_of}
use Rattle.cx_replay.proofs.Enabling.{any_here, any_later}
use Rattle.cx_replay.proofs.making.can_make_any.Goals as goal

pub returns-then-can : goal.returns-then-can
returns-then-can c =
    let s = scene_of c.args.plan.now in
    any_here s (world_of s c.args.objects.now c.args.runners.now) c.args.t.0 c.args.forms.now c.loop-form.form-index _ c.can_make-can.result c.loop-form-test.true c.can_make-can.ensures c.loop-form.invariant c.if-can.true

pub loop-form-preserved : goal.loop-form-preserved
loop-form-preserved c =
    let s = scene_of c.args.plan.now in
    any_later s (world_of s c.args.objects.now c.args.runners.now) c.args.t.0 c.args.forms.now c.loop-form.form-index _ c.can_make-can.result c.loop-form-test.true c.can_make-can.ensures c.loop-form.invariant c.if-can.false
