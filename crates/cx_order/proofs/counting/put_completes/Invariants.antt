use Rattle.std.proofs.Common.{◌≡◌, ◌++◌, drop}
use Rattle.cx_order.specs.Counts.{completes_in}
use Rattle.cx_order.proofs.counting.put_completes.Given as goal

abbrev pub invariant-loop-i : goal.invariant-loop-i
invariant-loop-i l = l.numbers.items ++ completes_in (drop l.i l.list) ≡ l.fn.numbers.items ++ completes_in l.list
