use Rattle.std.proofs.Common.{◌≡◌, drop}
use Rattle.cx_items.specs.Calls.{has_one}
use Rattle.cx_items.proofs.memory.Memory.has_one.Given as goal

abbrev pub invariant-loop-o : goal.invariant-loop-o
invariant-loop-o l = has_one l.self (drop l.o-index l.mutexes) ≡ has_one l.self l.mutexes
