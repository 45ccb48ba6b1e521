use Rattle.std.proofs.Common.{◌≡◌, drop, is_some}
use Rattle.cx_scene.specs.Scene.{scene_of}
use Rattle.cx_replay.specs.Schedule.{first_made}
use Rattle.cx_replay.specs.Views.{world_of}
use Rattle.cx_replay.proofs.making.can_make_any.Given as goal

abbrev pub invariant-loop-form : goal.invariant-loop-form
invariant-loop-form l =
    let s = scene_of l.plan in
    let w = world_of s l.objects l.runners in
    is_some (first_made s w l.t.0 (drop l.form-index l.forms)) ≡ is_some (first_made s w l.t.0 l.forms)
