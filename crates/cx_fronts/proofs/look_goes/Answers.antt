use Rattle.cx_fronts.proofs.Grown.{look_goes}
use Rattle.cx_fronts.proofs.look_goes.Goals as goal

pub returns : goal.returns
returns c = look_goes
