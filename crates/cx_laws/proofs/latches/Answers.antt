use Rattle.cx_laws.proofs.Latch.{counted_within, opens_at_zero, stays_open}
use Rattle.cx_laws.proofs.latches.Goals as goal

pub returns-clause-counted_within : goal.returns-clause-counted_within
returns-clause-counted_within c = counted_within

pub returns-clause-opens_at_zero : goal.returns-clause-opens_at_zero
returns-clause-opens_at_zero c = opens_at_zero

pub returns-clause-stays_open : goal.returns-clause-stays_open
returns-clause-stays_open c = stays_open
