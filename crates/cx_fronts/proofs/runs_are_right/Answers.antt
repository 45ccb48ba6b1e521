use Rattle.cx_fronts.proofs.Right.{runs_are_right}
use Rattle.cx_fronts.proofs.runs_are_right.Goals as goal

pub returns : goal.returns
returns c = runs_are_right
