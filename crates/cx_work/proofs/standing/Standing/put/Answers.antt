use Rattle.std.proofs.Common.{rules}
use Rattle.cx_work.proofs.Walking.{stands_on}
use Rattle.cx_work.proofs.standing.Standing.put.Goals as goal

pub returns-clause-at : goal.returns-clause-at
returns-clause-at c = stands_on _ _ _ _ _ _ _ _ _ _ c.requires.at c.requires.fits c.requires.formed c.requires.due c.in_ok-moved.ensures (search rules)
