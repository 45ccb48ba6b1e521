use Rattle.std.proofs.Common.{◌≡◌, take}
use Rattle.std.specs.List.{sum_by}
use Rattle.cx_items.specs.Room.{left_by}
use Rattle.cx_items.proofs.room.left_by_all.Given as goal

abbrev pub invariant-loop-call : goal.invariant-loop-call
invariant-loop-call l = l.count ≡ sum_by left_by (take l.call-index l.calls)
