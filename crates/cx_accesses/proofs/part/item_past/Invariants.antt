use Rattle.std.proofs.Common.{◌≡◌, map, length}
use Rattle.cx_text.specs.Views.{lines_left}
use Rattle.cx_record.specs.RecordFaults.{read_line}
use Rattle.cx_accesses.specs.RecordPart.{item_limit, item_past}
use Rattle.cx_accesses.proofs.part.item_past.Given as goal

abbrev pub invariant-loop-line : goal.invariant-loop-line
invariant-loop-line l = item_past l.number l.more (map read_line (lines_left l.left)) ≡ item_past l.fn.first item_limit (map read_line (lines_left l.fn.lines))

abbrev pub decreases-loop-line : goal.decreases-loop-line
decreases-loop-line l = length (lines_left l.left)
