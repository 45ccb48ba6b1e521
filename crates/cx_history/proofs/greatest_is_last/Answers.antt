use Rattle.cx_history.proofs.Appending.{greatest_is_last}
use Rattle.cx_history.proofs.greatest_is_last.Goals as goal

pub returns : goal.returns
returns c = greatest_is_last
