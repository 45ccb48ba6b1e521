use Rattle.std.proofs.Common.{◌≡◌, ◌++◌, take}
use Rattle.std.specs.List.{flat_map}
use Rattle.cx_record.specs.Printed.{item_text}
use Rattle.cx_record.specs.NamesSeen.{naming_seen}
use Rattle.cx_record.proofs.printing.put_items.Given as goal

abbrev pub invariant-loop-item : goal.invariant-loop-item
invariant-loop-item l = l.out.items ≡ l.fn.out.items ++ flat_map (item_text (naming_seen l.names)) (take l.item-index l.items)
