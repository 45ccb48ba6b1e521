use Rattle.std.proofs.Common.{◌≡◌, ℕ, ◌++◌, map, drop}
use Rattle.cx_scene.specs.Scene.{scene_of}
use Rattle.cx_items.specs.Next.{Local, offered_by}
use Rattle.cx_items.specs.Steps.{form_of}
use Rattle.cx_items.proofs.local.Local.forms_from.Given as goal

abbrev pub invariant-loop-depth : goal.invariant-loop-depth
invariant-loop-depth l = (t : ℕ) (k : Local) → map form_of (offered_by (scene_of l.plan) t k (drop l.fn.first l.self.agenda)) ≡ l.out.items ++ map form_of (offered_by (scene_of l.plan) t k (drop l.depth l.self.agenda))
