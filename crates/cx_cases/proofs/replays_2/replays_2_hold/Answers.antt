use Rattle.std.proofs.Common.{refl}
use Rattle.cx_cases.proofs.replays_2.replays_2_hold.Goals as goal

pub returns-clause-replay_0036 : goal.returns-clause-replay_0036
returns-clause-replay_0036 c = refl

pub returns-clause-replay_0047 : goal.returns-clause-replay_0047
returns-clause-replay_0047 c = refl

pub returns-clause-replay_0053 : goal.returns-clause-replay_0053
returns-clause-replay_0053 c = refl

pub returns-clause-replay_0054 : goal.returns-clause-replay_0054
returns-clause-replay_0054 c = refl

pub returns-clause-replay_0086 : goal.returns-clause-replay_0086
returns-clause-replay_0086 c = refl

pub returns-clause-replay_0089 : goal.returns-clause-replay_0089
returns-clause-replay_0089 c = refl

pub returns-clause-replay_0094 : goal.returns-clause-replay_0094
returns-clause-replay_0094 c = refl

pub returns-clause-replay_0101 : goal.returns-clause-replay_0101
returns-clause-replay_0101 c = refl

pub returns-clause-replay_0109 : goal.returns-clause-replay_0109
returns-clause-replay_0109 c = refl

pub returns-clause-replay_0110 : goal.returns-clause-replay_0110
returns-clause-replay_0110 c = refl
