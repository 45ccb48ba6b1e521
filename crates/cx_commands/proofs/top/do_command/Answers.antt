use Rattle.cx_commands.proofs.top.do_command.Goals as goal

pub returns-in-Replay-clause-complete : goal.returns-in-Replay-clause-complete
returns-in-Replay-clause-complete g c = λ no_read no_write. rw c.in-Replay.is (c.replay_call.ensures.complete no_read no_write)

pub returns-in-Races-clause-complete : goal.returns-in-Races-clause-complete
returns-in-Races-clause-complete g c = λ no_read no_write. rw c.in-Races.is (c.races_call.ensures.complete no_read no_write)

pub returns-in-Races-clause-complete_fault : goal.returns-in-Races-clause-complete_fault
returns-in-Races-clause-complete_fault g c = λ no_read. rw c.in-Races.is (c.races_call.ensures.complete_fault no_read)
