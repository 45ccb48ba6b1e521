use Rattle.cx_laws.proofs.Stop.{requested_once, begins_once, never_after_deregistration, begins_after_request}
use Rattle.cx_laws.proofs.Runs.{waits_for_its_return}
use Rattle.cx_laws.proofs.stop_states.Goals as goal

pub returns-clause-requested_once : goal.returns-clause-requested_once
returns-clause-requested_once c = requested_once

pub returns-clause-begins_once : goal.returns-clause-begins_once
returns-clause-begins_once c = begins_once

pub returns-clause-never_after_deregistration : goal.returns-clause-never_after_deregistration
returns-clause-never_after_deregistration c = never_after_deregistration

pub returns-clause-begins_after_request : goal.returns-clause-begins_after_request
returns-clause-begins_after_request c = begins_after_request

pub returns-clause-waits_for_its_return : goal.returns-clause-waits_for_its_return
returns-clause-waits_for_its_return c = waits_for_its_return
