use Rattle.cx_commands.proofs.Runs.{runs_plan, few_threads, few_in, shares_in, runs_objects}
use Rattle.cx_commands.proofs.running.run_scenario.Goals as goal

pub make-requires-clause-now : goal.make-requires-clause-now
make-requires-clause-now g c = runs_plan c.args.scenario.now c.plan.result.now c.plan.ensures.plan c.plan.ensures.meant c.requires.built

pub make-requires-clause-threads : goal.make-requires-clause-threads
make-requires-clause-threads g c = few_threads c.args.scenario.now c.plan.result.now c.plan.ensures.plan c.plan.ensures.meant

pub run_on-requires-clause-runs : goal.run_on-requires-clause-runs
run_on-requires-clause-runs g c κs within =
    runs_objects c.plan.result.now c.in_ok-objects.objects c.in_ok-objects.ensures.scene (runs_plan c.args.scenario.now c.plan.result.now c.plan.ensures.plan c.plan.ensures.meant c.requires.built)

pub run_on-requires-clause-shares : goal.run_on-requires-clause-shares
run_on-requires-clause-shares g c κs within = shares_in c.plan.result.now c.in_ok-objects.objects c.in_ok-objects.passes.threads.items c.in_ok-objects.ensures.scene c.in_ok-objects.ensures.shares

pub run_on-requires-clause-threads : goal.run_on-requires-clause-threads
run_on-requires-clause-threads g c κs within = few_in c.args.scenario.now c.plan.result.now c.in_ok-objects.objects c.in_ok-objects.ensures.scene c.plan.ensures.plan c.plan.ensures.meant
