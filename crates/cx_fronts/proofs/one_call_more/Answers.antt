use Rattle.cx_fronts.proofs.Logged.{one_call_more}
use Rattle.cx_fronts.proofs.one_call_more.Goals as goal

pub returns : goal.returns
returns c = one_call_more
