use Rattle.cx_asks.proofs.Starting.{starts_once_now}
use Rattle.cx_asks.proofs.starts_are_first.Goals as goal

pub returns : goal.returns
returns c = starts_once_now
