use Rattle.std.proofs.Common.{◌≡◌, Some, None}
use Rattle.cx_scene.specs.Scene.{scene_of}
use Rattle.cx_replay.specs.Knowing.{Knows}
use Rattle.cx_replay.specs.Schedule.{turns, start}
use Rattle.cx_replay.specs.Views.{world_of}
use Rattle.cx_replay.proofs.Outcomes.{at}
use Rattle.cx_replay.proofs.outcome.replay_first.Given as goal

abbrev pub invariant-loop-count : goal.invariant-loop-count
invariant-loop-count l =
    let s = scene_of l.plan in
    record {
      made : turns l._count s (start s None) ≡ Some (at s l.objects.items l.runners.items);
      known : Knows s (world_of s l.objects.items l.runners.items) l.known.items;
    }
