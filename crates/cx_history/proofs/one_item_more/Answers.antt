use Rattle.cx_history.proofs.Appending.{one_item_more}
use Rattle.cx_history.proofs.one_item_more.Goals as goal

pub returns : goal.returns
returns c = one_item_more
