use Rattle.std.proofs.Common.{refl}
use Rattle.cx_cases.proofs.flawed_5.flawed_5_hold.Goals as goal

pub returns-clause-flaw_0139 : goal.returns-clause-flaw_0139
returns-clause-flaw_0139 c = refl

pub returns-clause-flaw_0140 : goal.returns-clause-flaw_0140
returns-clause-flaw_0140 c = refl

pub returns-clause-flaw_0144 : goal.returns-clause-flaw_0144
returns-clause-flaw_0144 c = refl

pub returns-clause-flaw_0145 : goal.returns-clause-flaw_0145
returns-clause-flaw_0145 c = refl

pub returns-clause-flaw_0146 : goal.returns-clause-flaw_0146
returns-clause-flaw_0146 c = refl

pub returns-clause-flaw_0148 : goal.returns-clause-flaw_0148
returns-clause-flaw_0148 c = refl

pub returns-clause-forged_3 : goal.returns-clause-forged_3
returns-clause-forged_3 c = refl

pub returns-clause-forged_4 : goal.returns-clause-forged_4
returns-clause-forged_4 c = refl

pub returns-clause-forged_5 : goal.returns-clause-forged_5
returns-clause-forged_5 c = refl

pub returns-clause-flaw_worked : goal.returns-clause-flaw_worked
returns-clause-flaw_worked c = refl
