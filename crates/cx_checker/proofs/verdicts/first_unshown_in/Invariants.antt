use Rattle.std.proofs.Common.{◌≡◌, ◌++◌, ℕ, List, length, drop}
use Rattle.cx_machine.specs.declared.kind.Look.{Look}
use Rattle.cx_scene.specs.Scene.{scene_of}
use Rattle.cx_history.specs.declared.flaw.Cause.TheVariants as causes
use Rattle.cx_history.specs.Legal.{is_shown}
use Rattle.cx_history.specs.Flaw.{first_in}
use Rattle.cx_history.specs.Views.{recorded_of}
use Rattle.cx_checker.specs.Looks.{looks_in, Tell}
use Rattle.cx_checker.proofs.verdicts.first_unshown_in.Given as goal

abbrev pub invariant-loop-i : goal.invariant-loop-i
invariant-loop-i l = record {
  count : length l.all.items ≡ length l.fn.all.items;
  tell : (rest : ℕ → List Look) → Tell (scene_of l.plan) (recorded_of l.record) l.fn.all.items (λ q. looks_in q l.list ++ rest q) → Tell (scene_of l.plan) (recorded_of l.record) l.all.items (λ q. looks_in q (drop l.i l.list) ++ rest q);
  same : (rest : ℕ → List Look) → Tell (scene_of l.plan) (recorded_of l.record) l.fn.all.items (λ q. looks_in q l.list ++ rest q) → first_in causes.Shown (λ u i x. is_shown (scene_of l.plan) (recorded_of l.record) x) l.t 0 l.list ≡ first_in causes.Shown (λ u i x. is_shown (scene_of l.plan) (recorded_of l.record) x) l.t l.i (drop l.i l.list);
}
