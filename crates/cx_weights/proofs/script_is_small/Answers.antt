use Rattle.cx_weights.proofs.Scripts.{script_is_small}
use Rattle.cx_weights.proofs.script_is_small.Goals as goal

pub returns : goal.returns
returns c = script_is_small
