use Rattle.std.proofs.Common.{All, take}
use Rattle.cx_record.proofs.TypesHold.{ListHasTypes}
use Rattle.cx_record.proofs.types.lists_have_types.Given as goal

abbrev pub invariant-loop-list : goal.invariant-loop-list
invariant-loop-list l = All ListHasTypes (take l.list-index l.lists)
