use Rattle.std.proofs.Common.{refl}
use Rattle.cx_cases.proofs.flawed_1.flawed_1_hold.Goals as goal

pub returns-clause-flaw_0001 : goal.returns-clause-flaw_0001
returns-clause-flaw_0001 c = refl

pub returns-clause-flaw_0002 : goal.returns-clause-flaw_0002
returns-clause-flaw_0002 c = refl

pub returns-clause-flaw_0008 : goal.returns-clause-flaw_0008
returns-clause-flaw_0008 c = refl

pub returns-clause-flaw_0011 : goal.returns-clause-flaw_0011
returns-clause-flaw_0011 c = refl

pub returns-clause-flaw_0015 : goal.returns-clause-flaw_0015
returns-clause-flaw_0015 c = refl

pub returns-clause-flaw_0018 : goal.returns-clause-flaw_0018
returns-clause-flaw_0018 c = refl

pub returns-clause-flaw_0029 : goal.returns-clause-flaw_0029
returns-clause-flaw_0029 c = refl

pub returns-clause-flaw_0031 : goal.returns-clause-flaw_0031
returns-clause-flaw_0031 c = refl

pub returns-clause-flaw_0033 : goal.returns-clause-flaw_0033
returns-clause-flaw_0033 c = refl

pub returns-clause-flaw_0036 : goal.returns-clause-flaw_0036
returns-clause-flaw_0036 c = refl
