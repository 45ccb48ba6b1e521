use Rattle.std.proofs.Common.{rules}
use Rattle.cx_machine.proofs.Rising.{told}
use Rattle.cx_machine.proofs.ids.place_of.Goals as goal

pub returns : goal.returns
returns c = let t = told _ _ _ c.requires c.binary_search.ensures.position in search (rules, t)
