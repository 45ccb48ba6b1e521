use Rattle.cx_laws.proofs.Barrier.{completes_when_full, last_to_arrive_completes, token_is_the_phase, waits_for_completion}
use Rattle.cx_laws.proofs.barriers.Goals as goal

pub returns-clause-completes_when_full : goal.returns-clause-completes_when_full
returns-clause-completes_when_full c = completes_when_full

pub returns-clause-last_completes : goal.returns-clause-last_completes
returns-clause-last_completes c = last_to_arrive_completes

pub returns-clause-token_is_the_phase : goal.returns-clause-token_is_the_phase
returns-clause-token_is_the_phase c = token_is_the_phase

pub returns-clause-waits_for_completion : goal.returns-clause-waits_for_completion
returns-clause-waits_for_completion c = waits_for_completion
