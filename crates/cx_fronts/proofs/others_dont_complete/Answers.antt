use Rattle.cx_fronts.proofs.Right.{others_dont_complete}
use Rattle.cx_fronts.proofs.others_dont_complete.Goals as goal

pub returns : goal.returns
returns c = others_dont_complete
