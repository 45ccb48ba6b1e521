use Rattle.std.proofs.Common.{◌≡◌, ◌<◌, ◌||◌, ℕ, length, drop}
use Rattle.cx_history.specs.Follows.{any_starts, has_started}
use Rattle.cx_history.specs.Views.{recorded_of}
use Rattle.cx_checker.specs.Marks.{marked}
use Rattle.cx_checker.proofs.marking.started.Given as goal

abbrev pub invariant-loop-i : goal.invariant-loop-i
invariant-loop-i l = record {
  long : length l.flags.items ≡ length l.record.lists.items;
  each : (t : ℕ) → t < length l.flags.items → (marked l.flags.items t || any_starts t (drop l.i l.list)) ≡ has_started (recorded_of l.record) t;
}
