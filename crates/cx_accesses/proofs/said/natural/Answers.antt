use Rattle.std.proofs.Common.{ap, ◌∙◌}
use Rattle.cx_accesses.specs.AccessesSeen.{number_in}
use Rattle.cx_accesses.proofs.Values.{natural_is}
use Rattle.cx_accesses.proofs.said.natural.Goals as goal

pub returns : goal.returns
returns c = c.number_in.ensures ∙ (ap number_in c.value_of.ensures ∙ natural_is _ c.args.word.now)
