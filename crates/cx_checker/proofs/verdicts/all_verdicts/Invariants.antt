use Rattle.std.proofs.Common.{◌≡◌, length}
use Rattle.cx_scene.specs.Scene.{scene_of}
use Rattle.cx_history.specs.Views.{recorded_of}
use Rattle.cx_checker.specs.Looks.{looks_from, Tell}
use Rattle.cx_checker.proofs.verdicts.all_verdicts.Given as goal

abbrev pub invariant-loop-o : goal.invariant-loop-o
invariant-loop-o l = record {
  count : length l.all.items ≡ l.o;
  tell : Tell (scene_of l.plan) (recorded_of l.record) l.all.items (λ q. looks_from q (recorded_of l.record).lists);
}
