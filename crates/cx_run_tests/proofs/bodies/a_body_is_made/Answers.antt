use Rattle.std.proofs.Common.{[], length, sym, subst, arith}
use Rattle.cx_scene.specs.Scene.{Scene, scene_of}
use Rattle.cx_asks.specs.Scenes.{IsAskable}
use Rattle.cx_work.specs.Accesses.{AreMadeAs, objects_of}
use Rattle.cx_work.specs.Reserves.{AreEnough}
use Rattle.cx_run_tests.proofs.Running.{runnable_runs}
use Rattle.cx_run_tests.proofs.Beginning.{all_new, second_accesses, second_made, second_enough}
use Rattle.cx_run_tests.proofs.bodies.a_body_is_made.Goals as goal

pub make-requires-clause-now : goal.make-requires-clause-now
make-requires-clause-now g c = runnable_runs (scene_of c.in_ok-plan.plan) c.in_ok-plan.ensures.runs

pub new-requires-2-clause-asks : goal.new-requires-2-clause-asks
new-requires-2-clause-asks g c κs = subst (λ (s : Scene). IsAskable s) (sym c.in_ok-objects.ensures.scene) (runnable_runs (scene_of c.in_ok-plan.plan) c.in_ok-plan.ensures.runs).asks

pub new-requires-2-clause-made : goal.new-requires-2-clause-made
new-requires-2-clause-made g c κs =
    let s = scene_of c.in_ok-plan.plan in
    let long = c.in_ok-plan.plan.threads.ok.0 in
    let two = c.in_ok-plan.ensures.threads in
    subst (λ (z : Scene). AreMadeAs z.objects (objects_of c.remove-accesses.result.items)) (sym c.in_ok-objects.ensures.scene)
    (second_made s c.in_ok-objects.passes.threads.items c.remove-accesses.result (all_new c.in_ok-objects.passes.threads.items _ (length s.threads) long c.in_ok-objects.ensures.passes) (omega (arith, long, two)) c.remove-accesses.ensures.value c.in_ok-objects.ensures.objects)

pub new-requires-2-clause-accesses : goal.new-requires-2-clause-accesses
new-requires-2-clause-accesses g c κs =
    let s = scene_of c.in_ok-plan.plan in
    let long = c.in_ok-plan.plan.threads.ok.0 in
    let two = c.in_ok-plan.ensures.threads in
    second_accesses s c.in_ok-objects.passes.threads.items c.remove-accesses.result (all_new c.in_ok-objects.passes.threads.items _ (length s.threads) long c.in_ok-objects.ensures.passes) (omega (arith, long, two)) c.remove-accesses.ensures.value

pub new-requires-2-clause-enough : goal.new-requires-2-clause-enough
new-requires-2-clause-enough g c κs =
    let s = scene_of c.in_ok-plan.plan in
    let long = c.in_ok-plan.plan.threads.ok.0 in
    let two = c.in_ok-plan.ensures.threads in
    subst (λ (z : Scene). AreEnough z 1 c.remove-accesses.result.items []) (sym c.in_ok-objects.ensures.scene)
    (second_enough s c.in_ok-objects.passes.threads.items c.remove-accesses.result (all_new c.in_ok-objects.passes.threads.items _ (length s.threads) long c.in_ok-objects.ensures.passes) (omega (arith, long, two)) c.remove-accesses.ensures.value (runnable_runs s c.in_ok-plan.ensures.runs).asks c.in_ok-objects.ensures.shares)
