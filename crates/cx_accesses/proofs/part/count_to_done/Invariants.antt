use Rattle.std.proofs.Common.{◌≡◌, ◌+◌, length}
use Rattle.cx_text.specs.Views.{lines_left}
use Rattle.cx_accesses.specs.RecordPart.{count_to_done}
use Rattle.cx_accesses.proofs.part.count_to_done.Given as goal

abbrev pub invariant-loop-line : goal.invariant-loop-line
invariant-loop-line l = l.count + count_to_done (lines_left l.left) ≡ count_to_done (lines_left l.fn.lines)

abbrev pub decreases-loop-line : goal.decreases-loop-line
decreases-loop-line l = length (lines_left l.left)
