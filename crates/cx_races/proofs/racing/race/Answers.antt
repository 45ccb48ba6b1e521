use Rattle.std.proofs.Common.{sym, ◌∙◌}
use Rattle.cx_races.proofs.Pairs.{race_tells, no_race}
use Rattle.cx_races.proofs.racing.race.Goals as goal

pub returns-then-may : goal.returns-then-may
returns-then-may c = λ s r is pa pb. race_tells s r c.args.a c.args.b c.are_unordered.result (sym c.may_race-may.ensures ∙ c.if-may.true) (c.are_unordered.ensures s r is pa pb)

pub returns-else-may : goal.returns-else-may
returns-else-may c = λ s r is pa pb. no_race s r c.args.a c.args.b (sym c.may_race-may.ensures ∙ c.if-may.false)
