use Rattle.cx_record.proofs.RecordBack.{printed_means_one}
use Rattle.cx_record.proofs.laws.printed_means_one.Goals as goal

pub returns : goal.returns
returns c = printed_means_one
