use Rattle.cx_weights.proofs.Items.{requested_is_lighter}
use Rattle.cx_weights.proofs.requested_is_lighter.Goals as goal

pub returns : goal.returns
returns c = requested_is_lighter
