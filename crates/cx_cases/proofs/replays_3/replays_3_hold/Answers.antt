use Rattle.std.proofs.Common.{refl}
use Rattle.cx_cases.proofs.replays_3.replays_3_hold.Goals as goal

pub returns-clause-replay_0120 : goal.returns-clause-replay_0120
returns-clause-replay_0120 c = refl

pub returns-clause-replay_0122 : goal.returns-clause-replay_0122
returns-clause-replay_0122 c = refl

pub returns-clause-replay_0126 : goal.returns-clause-replay_0126
returns-clause-replay_0126 c = refl

pub returns-clause-replay_0128 : goal.returns-clause-replay_0128
returns-clause-replay_0128 c = refl

pub returns-clause-replay_0137 : goal.returns-clause-replay_0137
returns-clause-replay_0137 c = refl

pub returns-clause-replay_0148 : goal.returns-clause-replay_0148
returns-clause-replay_0148 c = refl
