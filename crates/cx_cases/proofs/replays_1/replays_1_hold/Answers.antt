use Rattle.std.proofs.Common.{refl}
use Rattle.cx_cases.proofs.replays_1.replays_1_hold.Goals as goal

pub returns-clause-replay_0002 : goal.returns-clause-replay_0002
returns-clause-replay_0002 c = refl

pub returns-clause-replay_0003 : goal.returns-clause-replay_0003
returns-clause-replay_0003 c = refl

pub returns-clause-replay_0013 : goal.returns-clause-replay_0013
returns-clause-replay_0013 c = refl

pub returns-clause-replay_0014 : goal.returns-clause-replay_0014
returns-clause-replay_0014 c = refl

pub returns-clause-replay_0021 : goal.returns-clause-replay_0021
returns-clause-replay_0021 c = refl

pub returns-clause-replay_0024 : goal.returns-clause-replay_0024
returns-clause-replay_0024 c = refl

pub returns-clause-replay_0027 : goal.returns-clause-replay_0027
returns-clause-replay_0027 c = refl

pub returns-clause-replay_0028 : goal.returns-clause-replay_0028
returns-clause-replay_0028 c = refl

pub returns-clause-replay_0031 : goal.returns-clause-replay_0031
returns-clause-replay_0031 c = refl

pub returns-clause-replay_0035 : goal.returns-clause-replay_0035
returns-clause-replay_0035 c = refl
