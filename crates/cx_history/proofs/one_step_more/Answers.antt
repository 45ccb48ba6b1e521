use Rattle.cx_history.proofs.Appending.{one_step_more}
use Rattle.cx_history.proofs.one_step_more.Goals as goal

pub returns : goal.returns
returns c = one_step_more
