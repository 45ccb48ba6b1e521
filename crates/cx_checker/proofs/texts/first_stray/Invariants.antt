use Rattle.std.proofs.Common.{◌≡◌, drop}
use Rattle.cx_scene.specs.Scene.{scene_of}
use Rattle.cx_history.specs.Flaw.{text_flaw_from}
use Rattle.cx_history.specs.Views.{recorded_of}
use Rattle.cx_checker.proofs.texts.first_stray.Given as goal

abbrev pub invariant-loop-t : goal.invariant-loop-t
invariant-loop-t l =
    let s = scene_of l.plan in
    let r = recorded_of l.record in
    text_flaw_from s r 0 r.lists ≡ text_flaw_from s r l.t (drop l.t r.lists)
