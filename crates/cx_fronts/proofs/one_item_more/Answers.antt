use Rattle.cx_fronts.proofs.Grown.{one_more}
use Rattle.cx_fronts.proofs.one_item_more.Goals as goal

pub returns : goal.returns
returns c = one_more
