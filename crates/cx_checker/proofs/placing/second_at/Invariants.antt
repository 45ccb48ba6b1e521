use Rattle.std.proofs.Common.{◌≡◌, map, drop, filter, slice_get, if◌then◌else◌}
use Rattle.cx_history.specs.Histories.{is_at}
use Rattle.cx_checker.specs.Views.{placed_of}
use Rattle.cx_checker.proofs.placing.second_at.Given as goal

abbrev pub invariant-loop-i : goal.invariant-loop-i
invariant-loop-i l = slice_get (filter (is_at l.k) (map placed_of l.changes)) 1 ≡ slice_get (filter (is_at l.k) (drop l.i (map placed_of l.changes))) (if l.has_one then 0 else 1)
