use Rattle.std.proofs.Common.{◌≡◌, ℕ, length, map, take, filter, slice_get, Some}
use Rattle.cx_history.specs.Histories.{is_at}
use Rattle.cx_checker.specs.declared.placing.Slot.{Slot}
use Rattle.cx_checker.specs.Views.{placed_of}
use Rattle.cx_checker.specs.Placing.{IsHeld}
use Rattle.cx_checker.proofs.placing.place.Given as goal

abbrev pub invariant-loop-i : goal.invariant-loop-i
invariant-loop-i l = record {
  count : length l.slots.items ≡ length l.changes;
  each : (k : ℕ) (slot : Slot) → slice_get l.slots.items k ≡ Some slot → IsHeld (map placed_of l.changes) slot (filter (is_at k) (take l.i (map placed_of l.changes)));
}
