use Rattle.cx_script.proofs.First.{is_clean}
use Rattle.cx_script.proofs.no_fault_is_clean.Goals as goal

pub returns : goal.returns
returns c = is_clean
