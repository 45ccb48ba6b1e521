use Rattle.cx_weights.proofs.Machines.{each_change_settles}
use Rattle.cx_weights.proofs.each_change_settles.Goals as goal

pub returns : goal.returns
returns c = each_change_settles
