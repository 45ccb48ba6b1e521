use Rattle.cx_laws.proofs.Mutex.{one_owner, owners_unlock, plain_is_owned_once, levels_are_few, owners_write}
use Rattle.cx_laws.proofs.mutexes.Goals as goal

pub returns-clause-one_owner : goal.returns-clause-one_owner
returns-clause-one_owner c = one_owner

pub returns-clause-owners_unlock : goal.returns-clause-owners_unlock
returns-clause-owners_unlock c = owners_unlock

pub returns-clause-plain_is_owned_once : goal.returns-clause-plain_is_owned_once
returns-clause-plain_is_owned_once c = plain_is_owned_once

pub returns-clause-levels_are_few : goal.returns-clause-levels_are_few
returns-clause-levels_are_few c = levels_are_few

pub returns-clause-owners_write : goal.returns-clause-owners_write
returns-clause-owners_write c = owners_write
