use Rattle.cx_fronts.proofs.Grown.{one_join_more}
use Rattle.cx_fronts.proofs.one_join_more.Goals as goal

pub returns : goal.returns
returns c = one_join_more
