use Rattle.std.proofs.Common.{arith}
use Rattle.cx_text.specs.Views.{lines_left}
use Rattle.cx_text.proofs.LinesLeft.{left_all, left_over}
use Rattle.cx_text.proofs.line.Lines.of.Goals as goal

pub returns-then-text-limit : goal.returns-then-text-limit
unfolding lines_left
returns-then-text-limit c = left_all c.args.limit c.args.text.now (omega arith)

pub returns : goal.returns
unfolding lines_left
returns c = left_over c.args.limit c.args.text.now (omega arith)
