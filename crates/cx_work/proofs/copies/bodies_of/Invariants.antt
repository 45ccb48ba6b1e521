use Rattle.std.proofs.Common.{◌≡◌, map, take}
use Rattle.std.specs.Global.{Vec}
use Rattle.cx_scene.specs.declared.call.Call.{Call}
use Rattle.cx_work.proofs.copies.bodies_of.Given as goal

abbrev pub invariant-loop-body : goal.invariant-loop-body
invariant-loop-body l = map (λ (b : Vec Call). b.items) l.copies.items ≡ map (λ (b : Vec Call). b.items) (take l.body-index l.bodies)
