use Rattle.cx_asks.proofs.Joining.{joinable_is}
use Rattle.cx_asks.proofs.started_may_be_joined.Goals as goal

pub returns : goal.returns
returns c = joinable_is
