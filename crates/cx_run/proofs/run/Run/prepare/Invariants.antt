use Rattle.std.proofs.Common.{length}
use Rattle.cx_work.specs.Bodies.{scene_in}
use Rattle.cx_work.specs.RunNow.{objects_of_all}
use Rattle.cx_run.proofs.Beginning.{AllWait}
use Rattle.cx_run.proofs.run.Run.prepare.Given as goal

abbrev pub invariant-loop-i : goal.invariant-loop-i
invariant-loop-i g l =
    (goal.iterator-loop-i g).can_next l.i-iterator × (goal.iterator-loop-i g).is_finite l.i-iterator
    × AllWait (scene_in l.objects) (objects_of_all l.fn.passes.threads.items) (length l.yielded) l.others.items
