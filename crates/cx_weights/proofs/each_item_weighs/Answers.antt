use Rattle.cx_weights.proofs.Items.{each_item_weighs}
use Rattle.cx_weights.proofs.each_item_weighs.Goals as goal

pub returns : goal.returns
returns c = each_item_weighs
