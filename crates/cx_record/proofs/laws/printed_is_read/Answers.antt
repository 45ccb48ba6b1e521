use Rattle.cx_record.proofs.WholeBack.{printed_is_read}
use Rattle.cx_record.proofs.laws.printed_is_read.Goals as goal

pub returns : goal.returns
returns c = printed_is_read
