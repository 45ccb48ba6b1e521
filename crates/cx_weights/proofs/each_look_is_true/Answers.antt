use Rattle.cx_weights.proofs.Machines.{each_look_is_true}
use Rattle.cx_weights.proofs.each_look_is_true.Goals as goal

pub returns : goal.returns
returns c = each_look_is_true
