use Rattle.std.proofs.Common.{refl}
use Rattle.cx_cases.proofs.flawed_4.flawed_4_hold.Goals as goal

pub returns-clause-flaw_0111 : goal.returns-clause-flaw_0111
returns-clause-flaw_0111 c = refl

pub returns-clause-flaw_0112 : goal.returns-clause-flaw_0112
returns-clause-flaw_0112 c = refl

pub returns-clause-flaw_0114 : goal.returns-clause-flaw_0114
returns-clause-flaw_0114 c = refl

pub returns-clause-flaw_0116 : goal.returns-clause-flaw_0116
returns-clause-flaw_0116 c = refl

pub returns-clause-flaw_0117 : goal.returns-clause-flaw_0117
returns-clause-flaw_0117 c = refl

pub returns-clause-flaw_0124 : goal.returns-clause-flaw_0124
returns-clause-flaw_0124 c = refl

pub returns-clause-flaw_0130 : goal.returns-clause-flaw_0130
returns-clause-flaw_0130 c = refl

pub returns-clause-flaw_0132 : goal.returns-clause-flaw_0132
returns-clause-flaw_0132 c = refl

pub returns-clause-flaw_0134 : goal.returns-clause-flaw_0134
returns-clause-flaw_0134 c = refl

pub returns-clause-flaw_0135 : goal.returns-clause-flaw_0135
returns-clause-flaw_0135 c = refl
