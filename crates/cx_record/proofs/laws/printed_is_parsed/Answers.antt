use Rattle.cx_record.proofs.RecordBack.{printed_is_parsed}
use Rattle.cx_record.proofs.laws.printed_is_parsed.Goals as goal

pub returns : goal.returns
returns c = printed_is_parsed
