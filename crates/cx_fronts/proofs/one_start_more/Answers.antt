use Rattle.cx_fronts.proofs.Grown.{one_start_more}
use Rattle.cx_fronts.proofs.one_start_more.Goals as goal

pub returns : goal.returns
returns c = one_start_more
