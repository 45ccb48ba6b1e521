use Rattle.cx_fronts.proofs.Heart.{passes_are_legal}
use Rattle.cx_fronts.proofs.passes_are_legal.Goals as goal

pub returns : goal.returns
returns c = passes_are_legal
