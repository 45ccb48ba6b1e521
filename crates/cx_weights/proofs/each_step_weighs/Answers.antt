use Rattle.cx_weights.proofs.Worlds.{each_step_weighs}
use Rattle.cx_weights.proofs.each_step_weighs.Goals as goal

pub returns : goal.returns
returns c = each_step_weighs
