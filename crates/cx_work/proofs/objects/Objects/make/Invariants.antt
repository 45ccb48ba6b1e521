use Rattle.cx_scene.specs.Scene.{scene_of}
use Rattle.cx_work.specs.Accesses.{objects_of}
use Rattle.cx_work.proofs.Rows.{RowsMade}
use Rattle.cx_work.proofs.Shares.{RowsShared}
use Rattle.cx_work.proofs.objects.Objects.make.Given as goal

abbrev pub invariant-loop-splits : goal.invariant-loop-splits
invariant-loop-splits l = RowsMade (objects_of l.initial.main.items) l.threads l.splits l.main.items l.passes.items × RowsShared (scene_of l.plan) l.splits l.main.items l.passes.items
