use Rattle.std.proofs.Common.{refl}
use Rattle.cx_cases.proofs.legal_1.legal_1_hold.Goals as goal

pub returns-clause-check_0004 : goal.returns-clause-check_0004
returns-clause-check_0004 c = refl

pub returns-clause-check_0025 : goal.returns-clause-check_0025
returns-clause-check_0025 c = refl

pub returns-clause-check_0042 : goal.returns-clause-check_0042
returns-clause-check_0042 c = refl

pub returns-clause-check_0046 : goal.returns-clause-check_0046
returns-clause-check_0046 c = refl

pub returns-clause-check_0057 : goal.returns-clause-check_0057
returns-clause-check_0057 c = refl

pub returns-clause-check_0062 : goal.returns-clause-check_0062
returns-clause-check_0062 c = refl

pub returns-clause-check_0070 : goal.returns-clause-check_0070
returns-clause-check_0070 c = refl

pub returns-clause-check_0078 : goal.returns-clause-check_0078
returns-clause-check_0078 c = refl

pub returns-clause-check_0085 : goal.returns-clause-check_0085
returns-clause-check_0085 c = refl

pub returns-clause-check_0090 : goal.returns-clause-check_0090
returns-clause-check_0090 c = refl
