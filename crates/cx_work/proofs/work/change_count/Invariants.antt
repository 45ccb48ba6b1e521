use Rattle.std.proofs.Common.{◌≡◌, ◌≤◌, take}
use Rattle.cx_fronts.specs.Counts.{change_count}
use Rattle.cx_work.proofs.work.change_count.Given as goal

abbrev pub invariant-loop-i : goal.invariant-loop-i
invariant-loop-i l = (l.count ≡ change_count (take l.i l.list)) × (l.count ≤ l.i)
