use Rattle.cx_commands.proofs.Completing.{completes_replay, completes_fault}
use Rattle.cx_commands.proofs.replaying.replay_call.Goals as goal

pub returns-clause-complete : goal.returns-clause-complete
returns-clause-complete g c = λ no_read no_write.
    completes_replay c.args.seed _ _ _ _ c.replay_source.result c.replay_source.ensures.done c.replay_source.ensures.stuck c.replay_source.ensures.bad_scenario
    (λ e. no_read (c.replay_source.ensures.read_fault e).0) (λ e. no_write (c.replay_source.ensures.write_fault e).0)
    c.replay_source.ensures.no_bad_words c.replay_source.ensures.no_illegal c.replay_source.ensures.no_not_built

pub returns-clause-complete_fault : goal.returns-clause-complete_fault
returns-clause-complete_fault g c = λ no_read.
    completes_fault c.args.seed _ _ _ _ c.replay_source.result c.replay_source.ensures.done c.replay_source.ensures.stuck (λ e. (c.replay_source.ensures.write_fault e).1)
    (λ e. no_read (c.replay_source.ensures.read_fault e).0)
    c.replay_source.ensures.no_bad_words c.replay_source.ensures.no_illegal c.replay_source.ensures.no_not_built
