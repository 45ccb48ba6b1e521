use Rattle.std.proofs.Common.{◌≡◌, ◌++◌, drop, map}
use Rattle.cx_scene.specs.Scene.{scene_of}
use Rattle.cx_replay.specs.Knowing.{IsLatest, Knows}
use Rattle.cx_replay.specs.Schedule.{steps_from, steps}
use Rattle.cx_replay.specs.Views.{thing_of, runners_from, world_of}
use Rattle.cx_replay.proofs.Drawing.{step_at, some}
use Rattle.cx_replay.proofs.turning.put_enabled.Given as goal

abbrev pub invariant-loop-i : goal.invariant-loop-i
invariant-loop-i l =
    let s = scene_of l.plan in
    let w = world_of s l.objects l.runners in
    record {
      known : Knows s w l.known.items;
      latest : IsLatest (map thing_of l.objects) l.latest;
      enabled : map (step_at s w) l.enabled.items ++ map some (steps_from s w l.i (drop l.i (runners_from s 0 l.runners))) ≡ map some (steps s w);
    }
