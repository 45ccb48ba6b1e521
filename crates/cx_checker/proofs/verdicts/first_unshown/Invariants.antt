use Rattle.std.proofs.Common.{◌≡◌, length, drop}
use Rattle.cx_scene.specs.Scene.{scene_of}
use Rattle.cx_history.specs.declared.flaw.Cause.TheVariants as causes
use Rattle.cx_history.specs.Legal.{is_shown}
use Rattle.cx_history.specs.Flaw.{first_of_items}
use Rattle.cx_history.specs.Views.{recorded_of}
use Rattle.cx_checker.specs.Looks.{looks_from, Tell}
use Rattle.cx_checker.proofs.verdicts.first_unshown.Given as goal

abbrev pub invariant-loop-t : goal.invariant-loop-t
invariant-loop-t l = record {
  count : length l.all.items ≡ length l.plan.objects.items;
  tell : Tell (scene_of l.plan) (recorded_of l.record) l.all.items (λ q. looks_from q (drop l.t (recorded_of l.record).lists));
  same : first_of_items causes.Shown (λ t i x. is_shown (scene_of l.plan) (recorded_of l.record) x) 0 (recorded_of l.record).lists ≡ first_of_items causes.Shown (λ t i x. is_shown (scene_of l.plan) (recorded_of l.record) x) l.t (drop l.t (recorded_of l.record).lists);
}
