use Rattle.cx_fronts.proofs.Grown.{paths_compose}
use Rattle.cx_fronts.proofs.paths_compose.Goals as goal

pub returns : goal.returns
returns c = paths_compose
