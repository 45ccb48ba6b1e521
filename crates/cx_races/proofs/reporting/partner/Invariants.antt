use Rattle.cx_scene.specs.Scene.{Scene}
use Rattle.cx_history.specs.Histories.{Recorded}
use Rattle.cx_order.specs.Order.{IsOrderOf}
use Rattle.cx_races.specs.Races.{AreAccesses}
use Rattle.cx_races.proofs.Pairs.{NoneBelow}
use Rattle.cx_races.proofs.reporting.partner.Given as goal

abbrev pub invariant-loop-j : goal.invariant-loop-j
invariant-loop-j l = (s : Scene) (r : Recorded) → IsOrderOf s r l.order → AreAccesses r l.accesses → NoneBelow s r l.accesses l.a.var l.i l.j
