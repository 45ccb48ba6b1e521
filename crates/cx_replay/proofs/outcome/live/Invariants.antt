use Rattle.std.proofs.Common.{◌≡◌, ◌++◌, drop, map}
use Rattle.cx_scene.specs.Scene.{scene_of}
use Rattle.cx_history.specs.Views.{number_of}
use Rattle.cx_replay.specs.Schedule.{live_from}
use Rattle.cx_replay.specs.Views.{runners_from}
use Rattle.cx_replay.proofs.outcome.live.Given as goal

abbrev pub invariant-loop-i : goal.invariant-loop-i
invariant-loop-i l =
    let rs = runners_from (scene_of l.plan) 0 l.runners in
    live_from 0 rs ≡ map number_of l.threads.items ++ live_from l.i (drop l.i rs)
