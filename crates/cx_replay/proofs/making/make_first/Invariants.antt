use Rattle.std.proofs.Common.{◌≡◌, drop, map}
use Rattle.cx_scene.specs.Scene.{scene_of}
use Rattle.cx_replay.specs.Schedule.{first_made}
use Rattle.cx_replay.specs.Views.{thing_of, world_of}
use Rattle.cx_replay.proofs.making.make_first.Given as goal

abbrev pub invariant-loop-form : goal.invariant-loop-form
invariant-loop-form l = record {
  same : map thing_of l.objects.items ≡ map thing_of l.fn.objects.items;
  later : first_made (scene_of l.plan) (world_of (scene_of l.plan) l.fn.objects.items l.runners) l.t.0 (drop l.form-index l.forms) ≡ first_made (scene_of l.plan) (world_of (scene_of l.plan) l.fn.objects.items l.runners) l.t.0 l.forms;
}
