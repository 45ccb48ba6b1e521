use Rattle.std.proofs.Common.{length}
use Rattle.cx_text.specs.Views.{lines_left}
use Rattle.cx_scenario.specs.Views.{state_of}
use Rattle.cx_scenario.proofs.Fronts.{IsFronting}
use Rattle.cx_scenario.proofs.front.read_front.Given as goal

abbrev pub invariant-loop-line : goal.invariant-loop-line
invariant-loop-line l = IsFronting (lines_left l.fn.lines) (lines_left l.left) l.count (state_of l.reader)

abbrev pub decreases-loop-line : goal.decreases-loop-line
decreases-loop-line l = length (lines_left l.left)
