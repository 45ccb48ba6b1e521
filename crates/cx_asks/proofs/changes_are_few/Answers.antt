use Rattle.cx_asks.proofs.Changes.{changes_few}
use Rattle.cx_asks.proofs.changes_are_few.Goals as goal

pub returns : goal.returns
returns c = changes_few
