use Rattle.cx_commands.proofs.Completing.{completes_run, completes_unbuilt, completes_bad}
use Rattle.cx_commands.proofs.running.run_call.Goals as goal

pub returns-clause-complete : goal.returns-clause-complete
returns-clause-complete g c = λ no_read no_write.
    completes_run _ _ c.run_source.result.0 (λ e. (c.run_source.ensures.not_built e).0) c.run_source.ensures.bad_scenario
    (λ e. no_read (c.run_source.ensures.read_fault e).0) (λ e. no_write (c.run_source.ensures.write_fault e).0)
    c.run_source.ensures.no_bad_words c.run_source.ensures.no_illegal c.run_source.ensures.no_stuck

pub returns-clause-complete_unbuilt : goal.returns-clause-complete_unbuilt
returns-clause-complete_unbuilt g c = λ no_read.
    completes_unbuilt c.run_source.result.1 _ _ _ _ _ _ c.run_source.result.0 c.run_source.ensures.done (λ e. (c.run_source.ensures.write_fault e).1) c.run_source.ensures.bad_scenario
    (λ e. no_read (c.run_source.ensures.read_fault e).0)
    c.run_source.ensures.no_bad_words c.run_source.ensures.no_illegal c.run_source.ensures.no_stuck

pub returns-clause-complete_fault : goal.returns-clause-complete_fault
returns-clause-complete_fault g c = λ no_read.
    completes_bad c.run_source.result.1 _ _ _ _ _ c.run_source.result.0 c.run_source.ensures.done (λ e. (c.run_source.ensures.write_fault e).1) (λ e. (c.run_source.ensures.not_built e).0)
    (λ e. no_read (c.run_source.ensures.read_fault e).0)
    c.run_source.ensures.no_bad_words c.run_source.ensures.no_illegal c.run_source.ensures.no_stuck
