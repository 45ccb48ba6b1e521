use Rattle.cx_fronts.proofs.Mained.{mains_end}
use Rattle.cx_fronts.proofs.mains_end.Goals as goal

pub returns : goal.returns
returns c = mains_end
