use Rattle.std.proofs.Common.{refl}
use Rattle.cx_cases.proofs.flawed_3.flawed_3_hold.Goals as goal

pub returns-clause-flaw_0087 : goal.returns-clause-flaw_0087
returns-clause-flaw_0087 c = refl

pub returns-clause-flaw_0097 : goal.returns-clause-flaw_0097
returns-clause-flaw_0097 c = refl

pub returns-clause-flaw_0098 : goal.returns-clause-flaw_0098
returns-clause-flaw_0098 c = refl

pub returns-clause-flaw_0099 : goal.returns-clause-flaw_0099
returns-clause-flaw_0099 c = refl

pub returns-clause-flaw_0103 : goal.returns-clause-flaw_0103
returns-clause-flaw_0103 c = refl

pub returns-clause-flaw_0104 : goal.returns-clause-flaw_0104
returns-clause-flaw_0104 c = refl

pub returns-clause-flaw_0106 : goal.returns-clause-flaw_0106
returns-clause-flaw_0106 c = refl

pub returns-clause-flaw_0107 : goal.returns-clause-flaw_0107
returns-clause-flaw_0107 c = refl

pub returns-clause-flaw_0109 : goal.returns-clause-flaw_0109
returns-clause-flaw_0109 c = refl

pub returns-clause-flaw_0110 : goal.returns-clause-flaw_0110
returns-clause-flaw_0110 c = refl
