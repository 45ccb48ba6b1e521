use Rattle.cx_fronts.proofs.Right.{records_agree}
use Rattle.cx_fronts.proofs.records_agree.Goals as goal

pub returns : goal.returns
returns c = records_agree
