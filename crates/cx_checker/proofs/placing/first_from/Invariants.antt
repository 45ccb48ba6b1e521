use Rattle.std.proofs.Common.{◌≡◌, ◌≤◌, map, drop, filter, slice_get, option_map, length}
use Rattle.cx_history.specs.Histories.{in_order}
use Rattle.cx_checker.specs.Views.{placed_of}
use Rattle.cx_checker.specs.Placing.{is_from}
use Rattle.cx_checker.proofs.placing.first_from.Given as goal

abbrev pub invariant-loop-i : goal.invariant-loop-i
invariant-loop-i l = record {
  low : l.i ≤ length l.changes;
  first : option_map placed_of l.first ≡ slice_get (in_order (filter (is_from l.k) (drop l.i (map placed_of l.changes)))) 0;
}

abbrev pub decreases-loop-i : goal.decreases-loop-i
decreases-loop-i l = l.i
