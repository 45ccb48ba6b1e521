use Rattle.std.proofs.Common.{◌≤◌, length, sym, subst, arith}
use Rattle.cx_scene.specs.Scene.{Scene, scene_of}
use Rattle.cx_work.specs.RunNow.{IsRunNow, AreShared}
use Rattle.cx_run_tests.proofs.Running.{runnable_runs}
use Rattle.cx_run_tests.proofs.runs.run_by.Goals as goal

pub make-requires-clause-now : goal.make-requires-clause-now
make-requires-clause-now g c = runnable_runs (scene_of c.args.plan.now) c.requires.runs

pub run_on-requires-clause-runs : goal.run_on-requires-clause-runs
run_on-requires-clause-runs g c κs within = subst (λ (s : Scene). IsRunNow s) (sym c.in_ok-objects.ensures.scene) (runnable_runs (scene_of c.args.plan.now) c.requires.runs)

pub run_on-requires-clause-shares : goal.run_on-requires-clause-shares
run_on-requires-clause-shares g c κs within = subst (λ (s : Scene). AreShared s c.in_ok-objects.passes.threads.items) (sym c.in_ok-objects.ensures.scene) c.in_ok-objects.ensures.shares

pub run_on-requires-clause-threads : goal.run_on-requires-clause-threads
run_on-requires-clause-threads g c κs within =
    let long = c.args.plan.now.threads.ok.0 in
    let some = c.requires.threads.0 in
    let few = c.requires.threads.1 in
    subst (λ (s : Scene). (1 ≤ length s.threads) × (length s.threads ≤ 64)) (sym c.in_ok-objects.ensures.scene) (omega (arith, long, some), omega (arith, long, few))
