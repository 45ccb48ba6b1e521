use Rattle.std.proofs.Common.{◌≡◌, ◌<◌, ◌==◌, ℕ, length}
use Rattle.cx_checker.specs.Marks.{marked}
use Rattle.cx_checker.proofs.marking.main_alone.Given as goal

abbrev pub invariant-loop-t : goal.invariant-loop-t
invariant-loop-t l = record {
  long : length l.flags.items ≡ l.t;
  main : (t : ℕ) → t < length l.flags.items → marked l.flags.items t ≡ (t == 0);
}
