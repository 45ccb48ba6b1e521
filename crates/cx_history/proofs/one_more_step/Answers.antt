use Rattle.cx_history.proofs.Appending.{run-append}
use Rattle.cx_history.proofs.one_more_step.Goals as goal

pub returns : goal.returns
returns c = run-append
