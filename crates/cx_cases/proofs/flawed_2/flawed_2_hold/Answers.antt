use Rattle.std.proofs.Common.{refl}
use Rattle.cx_cases.proofs.flawed_2.flawed_2_hold.Goals as goal

pub returns-clause-flaw_0043 : goal.returns-clause-flaw_0043
returns-clause-flaw_0043 c = refl

pub returns-clause-flaw_0051 : goal.returns-clause-flaw_0051
returns-clause-flaw_0051 c = refl

pub returns-clause-flaw_0052 : goal.returns-clause-flaw_0052
returns-clause-flaw_0052 c = refl

pub returns-clause-flaw_0056 : goal.returns-clause-flaw_0056
returns-clause-flaw_0056 c = refl

pub returns-clause-flaw_0063 : goal.returns-clause-flaw_0063
returns-clause-flaw_0063 c = refl

pub returns-clause-flaw_0064 : goal.returns-clause-flaw_0064
returns-clause-flaw_0064 c = refl

pub returns-clause-flaw_0065 : goal.returns-clause-flaw_0065
returns-clause-flaw_0065 c = refl

pub returns-clause-flaw_0066 : goal.returns-clause-flaw_0066
returns-clause-flaw_0066 c = refl

pub returns-clause-flaw_0067 : goal.returns-clause-flaw_0067
returns-clause-flaw_0067 c = refl

pub returns-clause-flaw_0084 : goal.returns-clause-flaw_0084
returns-clause-flaw_0084 c = refl
