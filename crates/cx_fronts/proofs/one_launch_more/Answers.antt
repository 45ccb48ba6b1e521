use Rattle.cx_fronts.proofs.Grown.{one_launch_more}
use Rattle.cx_fronts.proofs.one_launch_more.Goals as goal

pub returns : goal.returns
returns c = one_launch_more
