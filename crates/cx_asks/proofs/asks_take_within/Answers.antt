use Rattle.cx_asks.proofs.Answering.{asked_takes_now}
use Rattle.cx_asks.proofs.asks_take_within.Goals as goal

pub returns : goal.returns
returns c = asked_takes_now
