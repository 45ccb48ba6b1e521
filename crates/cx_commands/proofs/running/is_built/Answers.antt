use Rattle.std.proofs.Common.{sym, ap, ◌∙◌}
use Rattle.cx_commands.specs.Built.{is_built_by}
use Rattle.cx_commands.proofs.Building.{built_by_numbers}
use Rattle.cx_commands.proofs.running.is_built.Goals as goal

pub returns : goal.returns
returns c = c.is_built_plan.ensures ∙ ap is_built_by c.plan.ensures.plan ∙ sym (built_by_numbers c.args.scenario.now)
