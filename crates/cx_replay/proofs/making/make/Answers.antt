use Rattle.std.proofs.Common.{rules, ◌≡◌, sym, subst, map, IfOk, to_z, of_z, w64}
use Rattle.cx_scene.specs.Scene.{scene_of}
use Rattle.cx_replay.specs.Schedule.{made}
use Rattle.cx_replay.specs.Views.{thing_of, world_of, Makes}
use Rattle.cx_replay.proofs.making.make.Goals as goal

pub returns-in-Change : goal.returns-in-Change
returns-in-Change c =
    let a : to_z w64 (of_z w64 c.in-Change.a) ≡ c.in-Change.a = search rules in
    let b : to_z w64 (of_z w64 c.in-Change.b) ≡ c.in-Change.b = search rules in
    subst (λ f. IfOk c.make_change_of.result (λ item. Makes item (made (scene_of c.args.plan.now) (world_of (scene_of c.args.plan.now) c.args.objects.now.items c.args.runners.now) c.args.t.0 f) (map thing_of c.args.objects.now.items) (map thing_of c.make_change_of.new.objects.items))) (sym c.in-Change.is) (rw (a, b) at c.make_change_of.ensures)

pub returns-in-Look : goal.returns-in-Look
returns-in-Look c =
    let a : to_z w64 (of_z w64 c.in-Look.a) ≡ c.in-Look.a = search rules in
    let b : to_z w64 (of_z w64 c.in-Look.b) ≡ c.in-Look.b = search rules in
    subst (λ f. Makes c.make_look_of.result (made (scene_of c.args.plan.now) (world_of (scene_of c.args.plan.now) c.args.objects.now.items c.args.runners.now) c.args.t.0 f) (map thing_of c.args.objects.now.items) (map thing_of c.args.objects.now.items)) (sym c.in-Look.is) (rw (a, b, c.deref.ensures.value) at c.make_look_of.ensures)
