use Rattle.std.proofs.Common.{◌≡◌, ℕ, length, slice_get, Some}
use Rattle.cx_checker.specs.declared.placing.Slot.{Slot}
use Rattle.cx_checker.specs.declared.placing.Slot.TheVariants as slots
use Rattle.cx_checker.proofs.placing.free.Given as goal

abbrev pub invariant-loop-free : goal.invariant-loop-free
invariant-loop-free l = record {
  count : length l.slots.items ≡ l._free;
  free : (k : ℕ) (slot : Slot) → slice_get l.slots.items k ≡ Some slot → slot ≡ slots.Free;
}
