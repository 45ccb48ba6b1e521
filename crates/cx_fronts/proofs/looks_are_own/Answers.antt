use Rattle.cx_fronts.proofs.Right.{looks_are_own}
use Rattle.cx_fronts.proofs.looks_are_own.Goals as goal

pub returns : goal.returns
returns c = looks_are_own
