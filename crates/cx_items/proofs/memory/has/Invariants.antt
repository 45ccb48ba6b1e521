use Rattle.std.proofs.Common.{◌≡◌, drop}
use Rattle.cx_machine.specs.Words.{has}
use Rattle.cx_items.proofs.memory.has.Given as goal

abbrev pub invariant-loop-m : goal.invariant-loop-m
invariant-loop-m l = has (drop l.m-index l.numbers) l.n ≡ has l.numbers l.n
