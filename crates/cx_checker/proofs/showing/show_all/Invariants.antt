use Rattle.std.proofs.Common.{◌≡◌, ◌==◌, ◌&&◌, ℕ, length, slice_get, take, Some, if◌then◌else◌}
use Rattle.cx_machine.specs.declared.kind.Look.{Look}
use Rattle.cx_machine.specs.Machine.{shows}
use Rattle.cx_machine.specs.Words.{has}
use Rattle.cx_checker.specs.Marks.{marked}
use Rattle.cx_checker.proofs.showing.show_all.Given as goal

abbrev pub invariant-loop-b : goal.invariant-loop-b
invariant-loop-b l = record {
  count : length l.verdicts.items ≡ length l.fn.verdicts.items;
  set_ : (i : ℕ) (m : Look) → slice_get l.looks i ≡ Some m → marked l.verdicts.items i ≡ (if has (take l.b l.bucket) i && (m.at == l.k) then shows l.state m else marked l.fn.verdicts.items i);
}
