use Rattle.cx_askable.proofs.Askable.{script_is_askable}
use Rattle.cx_askable.proofs.script_is_askable.Goals as goal

pub returns : goal.returns
returns c = script_is_askable
