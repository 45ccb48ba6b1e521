use Rattle.std.proofs.Common.{◌≡◌}
use Rattle.cx_scene.specs.Scene.{scene_of}
use Rattle.cx_work.specs.Bodies.{IsUnderway}
use Rattle.cx_work.proofs.work.make_all.Given as goal

abbrev pub invariant-loop : goal.invariant-loop
invariant-loop g l =
    (goal.iterator-loop g).can_next l.iterator' × (goal.iterator-loop g).is_finite l.iterator'
    × (l.standing.thread ≡ l.initial.standing.thread)
    × IsUnderway (scene_of l.plan) l.initial.standing.accesses.items l.standing
