use Rattle.std.proofs.Common.{ap, ◌∙◌, Option, ℕ}
use Rattle.std.specs.Prelude.{is_some}
use Rattle.cx_scenario.proofs.Found.{among_is}
use Rattle.cx_scenario.proofs.names.is_among.Goals as goal

pub returns : goal.returns
returns c = c.is_some.ensures ∙ ap (λ (o : Option ℕ). is_some o) c.find.ensures ∙ among_is c.args.names.now c.args.name.now
