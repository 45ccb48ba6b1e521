use Rattle.std.proofs.Common.{refl}
use Rattle.cx_cases.proofs.legal_2.legal_2_hold.Goals as goal

pub returns-clause-check_0098 : goal.returns-clause-check_0098
returns-clause-check_0098 c = refl

pub returns-clause-check_0115 : goal.returns-clause-check_0115
returns-clause-check_0115 c = refl

pub returns-clause-check_0135 : goal.returns-clause-check_0135
returns-clause-check_0135 c = refl

pub returns-clause-check_0144 : goal.returns-clause-check_0144
returns-clause-check_0144 c = refl
