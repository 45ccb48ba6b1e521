use Rattle.std.proofs.Common.{◌≡◌, drop}
use Rattle.cx_scene.specs.Scene.{scene_of}
use Rattle.cx_items.specs.Next.{offered, offered_by, reached}
use Rattle.cx_items.specs.Steps.{local_of}
use Rattle.cx_items.proofs.local.Local.found.Given as goal

abbrev pub invariant-loop-skipped : goal.invariant-loop-skipped
invariant-loop-skipped l =
    let k = local_of (scene_of l.plan) l.fn.t.0 l.self in
    reached (scene_of l.plan) (offered (scene_of l.plan) l.fn.t.0 k) l.item ≡ reached (scene_of l.plan) (offered_by (scene_of l.plan) l.fn.t.0 k (drop l.skipped k.agenda)) l.item
