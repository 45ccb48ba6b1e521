use Rattle.std.proofs.Common.{◌≡◌, drop, length}
use Rattle.cx_scene.specs.Scene.{scene_of}
use Rattle.cx_replay.specs.Knowing.{Knows}
use Rattle.cx_replay.specs.Schedule.{steps_from, steps}
use Rattle.cx_replay.specs.Views.{runners_from, world_of}
use Rattle.cx_replay.proofs.turning.turn.Given as goal

abbrev pub invariant-loop-i : goal.invariant-loop-i
invariant-loop-i l =
    let s = scene_of l.plan in
    let w = world_of s l.fn.objects.items l.fn.runners.items in
    record {
      same : world_of s l.objects.items l.runners.items ≡ w;
      number : length l.runners.items ≡ length l.fn.runners.items;
      known : Knows s (world_of s l.objects.items l.runners.items) l.known.items;
      later : steps_from s w l.i (drop l.i (runners_from s 0 l.fn.runners.items)) ≡ steps s w;
    }
