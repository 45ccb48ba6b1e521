use Rattle.std.proofs.Common.{refl}
use Rattle.cx_cases.proofs.seeded_2.seeded_2_hold.Goals as goal

pub returns-clause-seeded_0100 : goal.returns-clause-seeded_0100
returns-clause-seeded_0100 c = refl

pub returns-clause-seeded_0112 : goal.returns-clause-seeded_0112
returns-clause-seeded_0112 c = refl

pub returns-clause-seeded_0136 : goal.returns-clause-seeded_0136
returns-clause-seeded_0136 c = refl

pub returns-clause-seeded_0137 : goal.returns-clause-seeded_0137
returns-clause-seeded_0137 c = refl
