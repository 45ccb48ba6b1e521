use Rattle.cx_fronts.proofs.Grown.{refusal_goes}
use Rattle.cx_fronts.proofs.refusal_goes.Goals as goal

pub returns : goal.returns
returns c = refusal_goes
