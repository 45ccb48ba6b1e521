use Rattle.cx_fronts.proofs.Heart.{completions_are_seen}
use Rattle.cx_fronts.proofs.completions_are_seen.Goals as goal

pub returns : goal.returns
returns c = completions_are_seen
