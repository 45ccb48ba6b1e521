use Rattle.std.proofs.Common.{◌-◌, length, arith, rules}
use Rattle.cx_text.proofs.LinesLeft.{dropped_at, kept_at}
use Rattle.cx_text.proofs.line.without_return.Goals as goal

pub returns-in-13 : goal.returns-in-13
returns-in-13 c = dropped_at c.args.bytes.now (length c.args.bytes.now - 1) (omega arith) (search rules)

pub returns-in_default-2 : goal.returns-in_default-2
returns-in_default-2 c = kept_at c.args.bytes.now (length c.args.bytes.now - 1) (omega arith) (search rules)
