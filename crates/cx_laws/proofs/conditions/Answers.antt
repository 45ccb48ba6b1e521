use Rattle.cx_laws.proofs.Condition.{unblocked_was_notified, notified_waits, withdrawn_waits}
use Rattle.cx_laws.proofs.conditions.Goals as goal

pub returns-clause-unblocked_was_notified : goal.returns-clause-unblocked_was_notified
returns-clause-unblocked_was_notified c = unblocked_was_notified

pub returns-clause-notified_waits : goal.returns-clause-notified_waits
returns-clause-notified_waits c = notified_waits

pub returns-clause-withdrawn_waits : goal.returns-clause-withdrawn_waits
returns-clause-withdrawn_waits c = withdrawn_waits
