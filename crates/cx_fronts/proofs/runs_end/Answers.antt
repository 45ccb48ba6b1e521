use Rattle.cx_fronts.proofs.Grown.{runs_end}
use Rattle.cx_fronts.proofs.runs_end.Goals as goal

pub returns : goal.returns
returns c = runs_end
