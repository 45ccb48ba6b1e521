use Rattle.std.proofs.Common.{◌≡◌, true, All, take}
use Rattle.cx_record.specs.Laws.{item_fits}
use Rattle.cx_record.proofs.types.items_have_types.Given as goal

abbrev pub invariant-loop-item : goal.invariant-loop-item
invariant-loop-item l = All (λ x. item_fits x ≡ true) (take l.item-index l.items)
