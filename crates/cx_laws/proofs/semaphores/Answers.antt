use Rattle.cx_laws.proofs.Semaphore.{counter_is_there, counter_is_within_max, fails_at_zero}
use Rattle.cx_laws.proofs.semaphores.Goals as goal

pub returns-clause-counter_is_there : goal.returns-clause-counter_is_there
returns-clause-counter_is_there c = counter_is_there

pub returns-clause-counter_is_within_max : goal.returns-clause-counter_is_within_max
returns-clause-counter_is_within_max c = counter_is_within_max

pub returns-clause-fails_at_zero : goal.returns-clause-fails_at_zero
returns-clause-fails_at_zero c = fails_at_zero
