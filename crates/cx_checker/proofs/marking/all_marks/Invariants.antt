use Rattle.std.proofs.Common.{◌≡◌, ℕ, length, slice_get, Some}
use Rattle.cx_machine.specs.Machine.{opening}
use Rattle.cx_scene.specs.declared.declared.Object.{Object}
use Rattle.cx_scene.specs.Scene.{kind_of}
use Rattle.cx_history.specs.Histories.{changes_of}
use Rattle.cx_history.specs.Views.{recorded_of}
use Rattle.cx_checker.specs.declared.marking.Marks.{Marks}
use Rattle.cx_checker.specs.Marks.{AreCompletions}
use Rattle.cx_checker.proofs.marking.all_marks.Given as goal

abbrev pub invariant-loop-o : goal.invariant-loop-o
invariant-loop-o l = record {
  long : length l.all.items ≡ l.o;
  each : (q : ℕ) (b : Object) (m : Marks) → slice_get l.plan.objects.items q ≡ Some b → slice_get l.all.items q ≡ Some m → AreCompletions (opening (kind_of b)) (changes_of (recorded_of l.record) q) m.marks.items;
}
