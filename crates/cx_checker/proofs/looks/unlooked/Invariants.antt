use Rattle.std.proofs.Common.{◌≡◌, ℕ, [], length}
use Rattle.cx_checker.specs.Looks.{looks_at}
use Rattle.cx_checker.proofs.looks.unlooked.Given as goal

abbrev pub invariant-loop-object : goal.invariant-loop-object
invariant-loop-object l = record {
  count : length l.by_object.items ≡ l._object;
  none : (q : ℕ) → looks_at l.by_object.items q ≡ [];
}
