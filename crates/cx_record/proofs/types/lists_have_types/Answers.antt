use Rattle.std.proofs.Common.{◌≡◌, true, All, List, subst}
use Rattle.std.proofs.lemmas.List.{take_all}
use Rattle.std.proofs.lemmas.List.Elements.{All-more}
use Rattle.cx_items.specs.declared.item.Item.{Item}
use Rattle.cx_history.specs.declared.record.List.{List as ThreadList}
use Rattle.cx_record.specs.Laws.{item_fits}
use Rattle.cx_record.proofs.TypesHold.{ListHasTypes}
use Rattle.cx_record.proofs.types.lists_have_types.Goals as goal

pub loop-list-preserved : goal.loop-list-preserved
loop-list-preserved c = All-more ListHasTypes c.args.lists.now c.loop-list.list-index c.list-item.result c.loop-list-test.true c.loop-list.invariant (subst ListHasTypes c.list-item.is (subst (λ (xs : List Item). All (λ x. item_fits x ≡ true) xs) c.deref.ensures.value c.items_have_types.ensures))

pub returns : goal.returns
returns c = subst (λ (ls : List ThreadList). All ListHasTypes ls) (take_all c.loop-list.list-index c.args.lists.now c.loop-list-test.false) c.loop-list.invariant
