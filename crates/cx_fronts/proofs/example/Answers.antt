use Rattle.cx_fronts.proofs.Shown.{example}
use Rattle.cx_fronts.proofs.example.Goals as goal

pub returns : goal.returns
returns c = example
