use Rattle.std.proofs.Common.{◌≡◌, take}
use Rattle.std.specs.List.{count_by}
use Rattle.cx_items.specs.Calls.{is_number_of, owner_of}
use Rattle.cx_items.proofs.room.owned_by.Given as goal

abbrev pub invariant-loop-object : goal.invariant-loop-object
invariant-loop-object l = l.count ≡ count_by (λ o. is_number_of l.t.0 (owner_of o)) (take l.object-index l.object-items)
