use Rattle.cx_fronts.proofs.Grown.{paths_drift}
use Rattle.cx_fronts.proofs.paths_drift.Goals as goal

pub returns : goal.returns
returns c = paths_drift
