use Rattle.cx_fronts.proofs.Counted.{changes_are_counted}
use Rattle.cx_fronts.proofs.changes_are_counted.Goals as goal

pub returns : goal.returns
returns c = changes_are_counted
