use Rattle.std.proofs.Common.{map}
use Rattle.cx_scene.specs.Scene.{scene_of}
use Rattle.cx_replay.specs.Views.{thing_of, runners_from}
use Rattle.cx_replay.proofs.Firsts.{first_here, first_later}
use Rattle.cx_replay.proofs.making.make_first.Goals as goal

pub returns-in-Some : goal.returns-in-Some
returns-in-Some c =
    let s = scene_of c.args.plan.now in
    first_here s (runners_from s 0 c.args.runners.now) c.args.t.0 c.args.forms.now c.loop-form.form-index _ (map thing_of c.args.objects.now.items) (map thing_of c.loop-form.objects.items) (map thing_of c.make.new.objects.items) c.in_ok-made.made c.loop-form-test.true c.loop-form.invariant.same c.in_ok-made.ensures c.loop-form.invariant.later c.in-Some.item c.in-Some.is

pub loop-form-preserved : goal.loop-form-preserved
loop-form-preserved c =
    let s = scene_of c.args.plan.now in
    let later = first_later s (runners_from s 0 c.args.runners.now) c.args.t.0 c.args.forms.now c.loop-form.form-index _ (map thing_of c.args.objects.now.items) (map thing_of c.loop-form.objects.items) (map thing_of c.make.new.objects.items) c.in_ok-made.made c.loop-form-test.true c.loop-form.invariant.same c.in_ok-made.ensures c.loop-form.invariant.later c.in-None.is in
    record { same = later.0; later = later.1 }
