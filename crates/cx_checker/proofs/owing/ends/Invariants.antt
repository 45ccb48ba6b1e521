use Rattle.std.proofs.Common.{◌≡◌, ◌<◌, ℕ, length, slice_get}
use Rattle.cx_history.specs.Histories.{place_at_end}
use Rattle.cx_history.specs.Views.{recorded_of}
use Rattle.cx_checker.specs.Knowledge.{place_of}
use Rattle.cx_checker.proofs.owing.ends.Given as goal

abbrev pub invariant-loop-t : goal.invariant-loop-t
invariant-loop-t l = record {
  long : length l.ends.items ≡ l.t;
  each : (u o : ℕ) → u < l.t → place_of (slice_get l.ends.items u) o ≡ place_at_end (recorded_of l.record) u o;
}
