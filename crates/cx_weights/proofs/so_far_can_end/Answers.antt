use Rattle.cx_weights.proofs.Ending.{so_far_can_end}
use Rattle.cx_weights.proofs.so_far_can_end.Goals as goal

pub returns : goal.returns
returns c = so_far_can_end
