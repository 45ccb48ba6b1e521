use Rattle.cx_history.proofs.Appending.{completion_stays}
use Rattle.cx_history.proofs.completion_stays.Goals as goal

pub returns : goal.returns
returns c = completion_stays
