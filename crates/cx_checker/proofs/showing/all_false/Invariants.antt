use Rattle.std.proofs.Common.{◌≡◌, ℕ, length, false}
use Rattle.cx_checker.specs.Marks.{marked}
use Rattle.cx_checker.proofs.showing.all_false.Given as goal

abbrev pub invariant-loop-look : goal.invariant-loop-look
invariant-loop-look l = record {
  count : length l.verdicts.items ≡ l._look;
  none : (i : ℕ) → marked l.verdicts.items i ≡ false;
}
