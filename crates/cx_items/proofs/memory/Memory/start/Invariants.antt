use Rattle.std.proofs.Common.{◌≡◌, map, take}
use Rattle.cx_items.specs.Memory.{kept_at_start}
use Rattle.cx_items.proofs.memory.Memory.start.Given as goal

abbrev pub invariant-loop-object : goal.invariant-loop-object
invariant-loop-object l = l.kept.items ≡ map (kept_at_start l.t.0) (take l.object-index l.object-items)
