use Rattle.cx_scene.specs.Scene.{scene_of}
use Rattle.cx_history.specs.Views.{recorded_of}
use Rattle.cx_order.proofs.Given.{are_gives, are_small}
use Rattle.cx_order.proofs.gives.hubs.Goals as goal

pub returns-clause-all : goal.returns-clause-all
returns-clause-all c = are_gives (scene_of c.args.plan.now) (recorded_of c.args.record.now) c.in_ok-gives.gives.items c.in_ok-hubs.hubs.gives.items c.in_ok-gives.ensures.all c.in_ok-hubs.ensures

pub returns-clause-small : goal.returns-clause-small
returns-clause-small c = are_small c.in_ok-gives.gives.items c.in_ok-hubs.hubs.gives.items c.in_ok-gives.ensures.small c.in_ok-hubs.ensures
