use Rattle.std.proofs.Common.{sym, ◌∙◌}
use Rattle.cx_scenario.proofs.Found.{none_place, some_place}
use Rattle.cx_scenario.proofs.names.place_in.Goals as goal

pub returns-in-None : goal.returns-in-None
returns-in-None c = c.len.ensures ∙ none_place c.args.names.now c.args.name.now (sym c.find.ensures ∙ c.in-None.is)

pub returns-in-Some : goal.returns-in-Some
returns-in-Some c = some_place c.args.names.now c.args.name.now c.in-Some.place (sym c.find.ensures ∙ c.in-Some.is)
