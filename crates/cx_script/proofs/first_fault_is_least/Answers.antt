use Rattle.cx_script.proofs.First.{is_first}
use Rattle.cx_script.proofs.first_fault_is_least.Goals as goal

pub returns : goal.returns
returns c = is_first
