use Rattle.std.proofs.Common.{◌≡◌, true, All, List, subst}
use Rattle.std.proofs.lemmas.List.{take_all}
use Rattle.std.proofs.lemmas.List.Elements.{All-more}
use Rattle.cx_items.specs.declared.item.Item.{Item}
use Rattle.cx_record.specs.Laws.{item_fits}
use Rattle.cx_record.proofs.types.items_have_types.Goals as goal

pub loop-item-preserved : goal.loop-item-preserved
loop-item-preserved c = All-more (λ x. item_fits x ≡ true) c.args.items.now c.loop-item.item-index _ c.loop-item-test.true c.loop-item.invariant c.item_has_types.ensures

pub returns : goal.returns
returns c = subst (λ (xs : List Item). All (λ x. item_fits x ≡ true) xs) (take_all c.loop-item.item-index c.args.items.now c.loop-item-test.false) c.loop-item.invariant
