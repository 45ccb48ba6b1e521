use Rattle.std.proofs.Common.{All, List, subst}
use Rattle.cx_history.specs.declared.record.List.{List as ThreadList}
use Rattle.cx_record.proofs.TypesHold.{ListHasTypes, all_types}
use Rattle.cx_record.proofs.types.has_types.Goals as goal

pub returns : goal.returns
returns c = all_types c.args.record_of.now (subst (λ (ls : List ThreadList). All ListHasTypes ls) c.deref.ensures.value c.lists_have_types.ensures)
