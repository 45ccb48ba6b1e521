use Rattle.cx_fronts.proofs.Heart.{fronts_are_histories}
use Rattle.cx_fronts.proofs.fronts_are_histories.Goals as goal

pub returns : goal.returns
returns c = fronts_are_histories
