use Rattle.std.proofs.Common.{◌≡◌, drop}
use Rattle.cx_scene.specs.Scene.{scene_of}
use Rattle.cx_items.specs.Next.{local_at_start}
use Rattle.cx_items.specs.Steps.{local_of}
use Rattle.cx_history.specs.Histories.{list_of}
use Rattle.cx_history.specs.Follows.{completes}
use Rattle.cx_history.specs.Flaw.{stop_at}
use Rattle.cx_history.specs.Views.{recorded_of}
use Rattle.cx_checker.proofs.texts.first_stop.Given as goal

abbrev pub invariant-loop-i : goal.invariant-loop-i
invariant-loop-i l =
    let s = scene_of l.plan in
    let r = recorded_of l.record in
    stop_at s (completes s r) l.t 0 (local_at_start s l.t) (list_of r l.t) ≡ stop_at s (completes s r) l.t l.i (local_of s l.t l.local) (drop l.i (list_of r l.t))
