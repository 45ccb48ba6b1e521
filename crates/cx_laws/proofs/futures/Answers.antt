use Rattle.cx_laws.proofs.Future.{ready_once, sees_what_was_stored, outcome_stays, deferred_runs_once}
use Rattle.cx_laws.proofs.futures.Goals as goal

pub returns-clause-ready_once : goal.returns-clause-ready_once
returns-clause-ready_once c = ready_once

pub returns-clause-sees_what_was_stored : goal.returns-clause-sees_what_was_stored
returns-clause-sees_what_was_stored c = sees_what_was_stored

pub returns-clause-outcome_stays : goal.returns-clause-outcome_stays
returns-clause-outcome_stays c = outcome_stays

pub returns-clause-deferred_runs_once : goal.returns-clause-deferred_runs_once
returns-clause-deferred_runs_once c = deferred_runs_once
