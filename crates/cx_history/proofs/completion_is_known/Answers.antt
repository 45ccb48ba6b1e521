use Rattle.cx_history.proofs.Appending.{completion_is_known}
use Rattle.cx_history.proofs.completion_is_known.Goals as goal

pub returns : goal.returns
returns c = completion_is_known
