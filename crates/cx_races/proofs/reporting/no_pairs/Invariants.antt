use Rattle.std.proofs.Common.{◌≡◌, ℕ, length, Option, Some, None}
use Rattle.std.specs.Prelude.{slice_get}
use Rattle.cx_races.specs.declared.reporting.Pair.{Pair}
use Rattle.cx_races.proofs.reporting.no_pairs.Given as goal

abbrev pub invariant-loop-variable : goal.invariant-loop-variable
invariant-loop-variable l = record {
  count : length l.entries.items ≡ l._variable;
  none : (k : ℕ) (e : Option Pair) → slice_get l.entries.items k ≡ Some e → e ≡ None;
}
