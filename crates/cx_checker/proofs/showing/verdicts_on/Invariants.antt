use Rattle.std.proofs.Common.{◌≡◌, ℕ, map, length, slice_get, Some}
use Rattle.cx_machine.specs.declared.kind.Look.{Look}
use Rattle.cx_checker.specs.Views.{placed_of}
use Rattle.cx_checker.specs.Marks.{marked}
use Rattle.cx_checker.proofs.Shows.{Stood, told_below}
use Rattle.cx_checker.proofs.showing.verdicts_on.Given as goal

abbrev pub invariant-loop-k : goal.invariant-loop-k
invariant-loop-k l = record {
  stood : Stood l.fn.kind l.state (map placed_of l.changes) l.k;
  count : length l.verdicts.items ≡ length l.looks;
  each : (i : ℕ) (m : Look) → slice_get l.looks i ≡ Some m → marked l.verdicts.items i ≡ told_below l.fn.kind (map placed_of l.changes) l.k m;
}
