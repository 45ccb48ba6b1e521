use Rattle.std.proofs.Common.{◌-◌, ◌*◌, length, true}
use Rattle.cx_scene.specs.Scene.{Scene}
use Rattle.cx_history.specs.Histories.{Recorded}
use Rattle.cx_races.specs.Sheets.{class_of, AreOf, NoneBelow, AreFrom}
use Rattle.cx_races.proofs.sheet.Sheet.is_free.Given as goal

abbrev pub invariant-loop-place : goal.invariant-loop-place
invariant-loop-place l = record {
  from : AreFrom l.self.accesses.items l.place (class_of l.a.var true * 18446744073709551616);
  none : (s : Scene) (r : Recorded) → AreOf s r l.order l.a l.self.accesses.items → NoneBelow s r l.self.accesses.items l.a l.place;
}

abbrev pub decreases-loop-place : goal.decreases-loop-place
decreases-loop-place l = length l.self.accesses.items - l.place
