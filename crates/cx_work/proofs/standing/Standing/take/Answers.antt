use Rattle.cx_scene.specs.Scene.{scene_of}
use Rattle.cx_work.proofs.Bodying.{control_made, control_undue}
use Rattle.cx_work.proofs.standing.Standing.take.Goals as goal

pub put-requires-clause-at : goal.put-requires-clause-at
put-requires-clause-at c = control_made (scene_of c.args.plan.now) c.args.self.now.thread.0 c.args.self.now.accesses.items c.args.self.now.list.items c.args.self.now.local c.args.item c.requires.control c.requires.at

pub put-requires-clause-due : goal.put-requires-clause-due
put-requires-clause-due c = control_undue (scene_of c.args.plan.now) c.args.self.now.accesses.items c.args.item c.requires.control
