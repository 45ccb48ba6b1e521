use Rattle.cx_record.proofs.FirstFault.{is_first}
use Rattle.cx_record.proofs.laws.first_fault_is_least.Goals as goal

pub returns : goal.returns
returns c = is_first
