use Rattle.cx_asks.proofs.Latches.{shares_are}
use Rattle.cx_asks.proofs.shares_are_left.Goals as goal

pub returns : goal.returns
returns c = shares_are
