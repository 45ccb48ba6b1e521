use Rattle.std.proofs.Common.{rules, ◌≡◌, ◌∙◌, sym, ap, is_some, to_z, of_z, w64}
use Rattle.cx_scene.specs.Scene.{scene_of}
use Rattle.cx_replay.specs.Schedule.{made}
use Rattle.cx_replay.specs.Views.{world_of}
use Rattle.cx_replay.proofs.Enabling.{when_some}
use Rattle.cx_replay.proofs.making.can_make.Goals as goal

pub returns-in-Change : goal.returns-in-Change
returns-in-Change c =
    let a : to_z w64 (of_z w64 c.in-Change.a) ≡ c.in-Change.a = search rules in
    let b : to_z w64 (of_z w64 c.in-Change.b) ≡ c.in-Change.b = search rules in
    (rw (a, b) at c.can_change_of.ensures) ∙ ap (λ f. is_some (made (scene_of c.args.plan.now) (world_of (scene_of c.args.plan.now) c.args.objects.now c.args.runners.now) c.args.t.0 f)) (sym c.in-Change.is)

pub returns-in-Look : goal.returns-in-Look
returns-in-Look c =
    let a : to_z w64 (of_z w64 c.in-Look.a) ≡ c.in-Look.a = search rules in
    let b : to_z w64 (of_z w64 c.in-Look.b) ≡ c.in-Look.b = search rules in
    (rw (a, b) at c.can_look_of.ensures) ∙ ap (λ f. is_some (made (scene_of c.args.plan.now) (world_of (scene_of c.args.plan.now) c.args.objects.now c.args.runners.now) c.args.t.0 f)) (sym c.in-Look.is)

pub returns-in-Does : goal.returns-in-Does
returns-in-Does c =
    c.can_do.ensures ∙ (when_some _ _ ∙ ap (λ f. is_some (made (scene_of c.args.plan.now) (world_of (scene_of c.args.plan.now) c.args.objects.now c.args.runners.now) c.args.t.0 f)) (sym c.in-Does.is))
