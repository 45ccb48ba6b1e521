use Rattle.std.proofs.Common.{◌≡◌, drop}
use Rattle.cx_text.specs.Words.{said_as, first_some, rows_for}
use Rattle.cx_text.specs.Views.{now_all}
use Rattle.cx_text.proofs.Among.{read_among}
use Rattle.cx_text.proofs.reading.read_row.Given as goal

abbrev pub invariant-loop-row : goal.invariant-loop-row
invariant-loop-row g l =
    read_among _ g.F.Row.table l.head (now_all l.after) (drop l.row-index l.row-items)
    ≡ first_some (said_as g.F.Row.table 1 (now_all l.after)) (rows_for g.F.Row.table 1 l.head (now_all l.after))
