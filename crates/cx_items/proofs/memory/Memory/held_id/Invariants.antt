use Rattle.std.proofs.Common.{◌≡◌, drop}
use Rattle.cx_scene.specs.Scene.{scene_of}
use Rattle.cx_items.specs.Calls.{held_id}
use Rattle.cx_items.proofs.memory.Memory.held_id.Given as goal

abbrev pub invariant-loop-id : goal.invariant-loop-id
invariant-loop-id l = held_id (scene_of l.plan) (drop l.id-index l.id-items) l.k ≡ held_id (scene_of l.plan) l.id-items l.k
