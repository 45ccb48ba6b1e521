use Rattle.std.proofs.Common.{arith}
use Rattle.cx_text.proofs.Taken.{several_literals}
use Rattle.cx_text.proofs.reading.+has_literals.Goals as goal

pub returns-in-Several : goal.returns-in-Several
returns-in-Several t c = several_literals c.args.fields.now c.args.words.now _ _ _ _ _ (omega arith) c.in-Several.is c.is_within.ensures
