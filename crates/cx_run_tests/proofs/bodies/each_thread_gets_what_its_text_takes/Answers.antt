use Rattle.cx_scene.specs.Scene.{scene_of}
use Rattle.cx_run_tests.proofs.Running.{runnable_runs}
use Rattle.cx_run_tests.proofs.bodies.each_thread_gets_what_its_text_takes.Goals as goal

pub make-requires-clause-now : goal.make-requires-clause-now
make-requires-clause-now g c = runnable_runs (scene_of c.in_ok-plan.plan) c.in_ok-plan.ensures.runs
