use Rattle.std.proofs.Common.{◌≡◌, ◌++◌, drop, map}
use Rattle.cx_history.specs.Views.{listed}
use Rattle.cx_order.specs.Counts.{completes_from}
use Rattle.cx_order.proofs.counting.completes.Given as goal

abbrev pub invariant-loop-t : goal.invariant-loop-t
invariant-loop-t l = l.numbers.items ++ completes_from (drop l.t (map listed l.record.lists.items)) ≡ completes_from (map listed l.record.lists.items)
