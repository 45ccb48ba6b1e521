use Rattle.std.proofs.Common.{[], sym, subst}
use Rattle.cx_scene.specs.declared.plan.Plan.{Plan}
use Rattle.cx_scene.specs.Scene.{scene_of}
use Rattle.cx_work.specs.Reserves.{AreEnough}
use Rattle.cx_work.proofs.work.Work.new.Goals as goal

pub start-requires : goal.start-requires
start-requires g c = record { enough = subst (λ (p : Plan). AreEnough (scene_of p) c.args.thread.0 c.args.accesses.items []) (sym c.deref-2.ensures) c.requires.enough }
