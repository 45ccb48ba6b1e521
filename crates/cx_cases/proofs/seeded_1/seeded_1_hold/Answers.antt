use Rattle.std.proofs.Common.{refl}
use Rattle.cx_cases.proofs.seeded_1.seeded_1_hold.Goals as goal

pub returns-clause-seeded_0023 : goal.returns-clause-seeded_0023
returns-clause-seeded_0023 c = refl

pub returns-clause-seeded_0053 : goal.returns-clause-seeded_0053
returns-clause-seeded_0053 c = refl

pub returns-clause-seeded_0056 : goal.returns-clause-seeded_0056
returns-clause-seeded_0056 c = refl

pub returns-clause-seeded_0060 : goal.returns-clause-seeded_0060
returns-clause-seeded_0060 c = refl

pub returns-clause-seeded_0063 : goal.returns-clause-seeded_0063
returns-clause-seeded_0063 c = refl

pub returns-clause-seeded_0064 : goal.returns-clause-seeded_0064
returns-clause-seeded_0064 c = refl

pub returns-clause-seeded_0071 : goal.returns-clause-seeded_0071
returns-clause-seeded_0071 c = refl

pub returns-clause-seeded_0086 : goal.returns-clause-seeded_0086
returns-clause-seeded_0086 c = refl

pub returns-clause-seeded_0088 : goal.returns-clause-seeded_0088
returns-clause-seeded_0088 c = refl

pub returns-clause-seeded_0092 : goal.returns-clause-seeded_0092
returns-clause-seeded_0092 c = refl
