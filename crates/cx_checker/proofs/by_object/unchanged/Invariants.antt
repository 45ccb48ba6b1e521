use Rattle.std.proofs.Common.{◌≡◌, ℕ, [], length}
use Rattle.cx_checker.specs.Views.{changes_at}
use Rattle.cx_checker.proofs.by_object.unchanged.Given as goal

abbrev pub invariant-loop-object : goal.invariant-loop-object
invariant-loop-object l = record {
  count : length l.by_object.items ≡ l._object;
  none : (q : ℕ) → changes_at l.by_object.items q ≡ [];
}
