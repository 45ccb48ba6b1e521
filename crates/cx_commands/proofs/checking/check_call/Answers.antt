use Rattle.cx_commands.proofs.Found.{completes_check, completes_check_fault}
use Rattle.cx_commands.proofs.checking.check_call.Goals as goal

pub returns-clause-complete : goal.returns-clause-complete
returns-clause-complete g c = λ no_read no_write.
    completes_check _ _ _ _ c.check_source.result c.check_source.ensures.done c.check_source.ensures.illegal c.check_source.ensures.bad_scenario
    (λ e. no_read (c.check_source.ensures.read_fault e).0) (λ e. no_write (c.check_source.ensures.write_fault e).0)
    c.check_source.ensures.no_bad_words c.check_source.ensures.no_stuck c.check_source.ensures.no_not_built

pub returns-clause-complete_fault : goal.returns-clause-complete_fault
returns-clause-complete_fault g c = λ no_read.
    completes_check_fault _ _ _ _ c.check_source.result c.check_source.ensures.done c.check_source.ensures.illegal (λ e. (c.check_source.ensures.write_fault e).1)
    (λ e. no_read (c.check_source.ensures.read_fault e).0)
    c.check_source.ensures.no_bad_words c.check_source.ensures.no_stuck c.check_source.ensures.no_not_built
