use Rattle.cx_asks.proofs.Offering.{offered_now_is_served}
use Rattle.cx_asks.proofs.offered_is_served.Goals as goal

pub returns : goal.returns
returns c = offered_now_is_served
