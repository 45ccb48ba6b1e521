use Rattle.std.proofs.Common.{length}
use Rattle.cx_text.specs.Views.{lines_left}
use Rattle.cx_scenario.specs.Views.{state_of}
use Rattle.cx_scenario.proofs.Going.{IsGoing}
use Rattle.cx_scenario.proofs.reading.read_lines.Given as goal

abbrev pub invariant-loop-line : goal.invariant-loop-line
invariant-loop-line l = IsGoing (lines_left l.fn.lines) l.count (lines_left l.left) (state_of l.reader)

abbrev pub decreases-loop-line : goal.decreases-loop-line
decreases-loop-line l = length (lines_left l.left)
