use Rattle.std.proofs.Common.{◌+◌, ◌-◌, ◌*◌}
use Rattle.cx_scene.specs.Scene.{scene_of}
use Rattle.cx_work.specs.Accesses.{objects_of}
use Rattle.cx_work.proofs.Rows.{RowMade}
use Rattle.cx_work.proofs.Shares.{RowShared}
use Rattle.cx_work.proofs.making.row_of.Given as goal

abbrev pub invariant-loop-o : goal.invariant-loop-o
invariant-loop-o l = RowMade (objects_of l.initial.main) l.threads l.splits (131072 * (l.threads - l.splits)) (131072 * (l.threads - (l.splits + 1))) l.o l.main l.row.items × RowShared (scene_of l.plan) (l.splits + 1) l.o l.initial.main l.main l.row.items
