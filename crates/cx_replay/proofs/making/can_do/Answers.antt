use Rattle.std.proofs.Common.{◌∙◌}
use Rattle.cx_scene.specs.Scene.{scene_of}
use Rattle.cx_replay.proofs.Trying.{found, missing, join_here, no_join_here}
use Rattle.cx_replay.proofs.making.can_do.Goals as goal

pub returns-in-Some : goal.returns-in-Some
returns-in-Some c = c.has_ended.ensures ∙ join_here (scene_of c.args.plan.now) c.args.runners.now c.in-Join.u c.in-Some.runner.now c.args.control c.in-Join.is (found c.args.runners.now c.in-Join.u.0 c.in-Some.runner.now c.in-Some.ensures.lookup.0 c.in-Some.ensures.lookup.1)

pub returns-in-None : goal.returns-in-None
returns-in-None c = no_join_here (scene_of c.args.plan.now) c.args.runners.now c.in-Join.u c.args.control c.in-Join.is (missing c.args.runners.now c.in-Join.u.0 c.in-None.ensures.lookup.3)
