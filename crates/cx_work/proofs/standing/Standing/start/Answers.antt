use Rattle.cx_scene.specs.Scene.{scene_of}
use Rattle.cx_work.proofs.Walking.{stands_first}
use Rattle.cx_work.proofs.standing.Standing.start.Goals as goal

pub returns-clause-at : goal.returns-clause-at
returns-clause-at c = stands_first (scene_of c.args.plan.now) c.args.thread.0 c.args.accesses.items c.in_ok-with_capacity.field-0.items c.in_ok-start.field-0 c.in_ok-with_capacity.ensures.items c.in_ok-start.ensures c.requires.enough
