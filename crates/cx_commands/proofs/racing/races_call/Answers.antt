use Rattle.cx_commands.proofs.RacesComplete.{completes_races, completes_races_fault}
use Rattle.cx_commands.proofs.racing.races_call.Goals as goal

pub returns-clause-complete : goal.returns-clause-complete
returns-clause-complete g c = λ no_read no_write.
    completes_races _ _ _ _ c.race_source.result c.race_source.ensures.done c.race_source.ensures.illegal c.race_source.ensures.bad_scenario
    (λ e. no_read (c.race_source.ensures.read_fault e).0) (λ e. no_write (c.race_source.ensures.write_fault e).0)
    c.race_source.ensures.no_bad_words c.race_source.ensures.no_stuck c.race_source.ensures.no_not_built

pub returns-clause-complete_fault : goal.returns-clause-complete_fault
returns-clause-complete_fault g c = λ no_read.
    completes_races_fault _ _ _ _ c.race_source.result c.race_source.ensures.done (λ e. (c.race_source.ensures.write_fault e).1) c.race_source.ensures.illegal
    (λ e. no_read (c.race_source.ensures.read_fault e).0)
    c.race_source.ensures.no_bad_words c.race_source.ensures.no_stuck c.race_source.ensures.no_not_built
