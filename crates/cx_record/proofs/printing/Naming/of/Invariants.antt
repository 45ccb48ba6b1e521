use Rattle.std.proofs.Common.{◌≡◌, map, take}
use Rattle.cx_scene.specs.Scene.{kind_of}
use Rattle.cx_record.proofs.printing.Naming.of.Given as goal

abbrev pub invariant-loop-object : goal.invariant-loop-object
invariant-loop-object l = l.kinds.items ≡ map kind_of (take l.object-index l.object-items)
