use Rattle.cx_fronts.proofs.Heart.{changes_are_own}
use Rattle.cx_fronts.proofs.changes_are_own.Goals as goal

pub returns : goal.returns
returns c = changes_are_own
