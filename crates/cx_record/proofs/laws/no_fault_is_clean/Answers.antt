use Rattle.cx_record.proofs.FirstFault.{is_clean}
use Rattle.cx_record.proofs.laws.no_fault_is_clean.Goals as goal

pub returns : goal.returns
returns c = is_clean
