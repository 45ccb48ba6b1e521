use Rattle.cx_fronts.proofs.Grown.{change_goes}
use Rattle.cx_fronts.proofs.change_goes.Goals as goal

pub returns : goal.returns
returns c = change_goes
