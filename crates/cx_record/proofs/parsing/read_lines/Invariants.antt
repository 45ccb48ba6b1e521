use Rattle.std.proofs.Common.{length}
use Rattle.cx_text.specs.Views.{lines_left}
use Rattle.cx_record.specs.RosterSeen.{roster_seen}
use Rattle.cx_record.specs.ReaderSeen.{state_of}
use Rattle.cx_record.proofs.GoingOn.{IsGoing}
use Rattle.cx_record.proofs.parsing.read_lines.Given as goal

abbrev pub invariant-loop-line : goal.invariant-loop-line
invariant-loop-line l = IsGoing (roster_seen l.fn.reader.roster) l.fn.first (lines_left l.fn.lines) l.number (lines_left l.left) (state_of l.reader)

abbrev pub decreases-loop-line : goal.decreases-loop-line
decreases-loop-line l = length (lines_left l.left)
