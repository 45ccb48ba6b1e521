use Rattle.std.proofs.Common.{◌≡◌, length}
use Rattle.cx_scene.specs.Scene.{Scene}
use Rattle.cx_history.specs.Histories.{Recorded}
use Rattle.cx_order.specs.Order.{IsOrderOf}
use Rattle.cx_races.specs.Races.{AreAccesses, SaysSoFar}
use Rattle.cx_races.proofs.reporting.report.Given as goal

abbrev pub invariant-loop-i : goal.invariant-loop-i
invariant-loop-i l = record {
  count : length l.entries.items ≡ l.variables;
  says : (s : Scene) (r : Recorded) → IsOrderOf s r l.order → AreAccesses r l.accesses → SaysSoFar s r l.accesses l.i l.entries.items;
}
