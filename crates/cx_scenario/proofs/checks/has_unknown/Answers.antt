use Rattle.std.proofs.Common.{◌∙◌, sym, drop}
use Rattle.cx_scenario.proofs.Short.{unknown_short}
use Rattle.cx_scenario.proofs.checks.has_unknown.Goals as goal

pub returns-in-empty : goal.returns-in-empty
returns-in-empty c = sym (unknown_short c.args.kept.now (drop c.loop-field.field-index c.args.fields.now) c.loop-field.rest.now c.in-empty.len_below) ∙ c.loop-field.invariant
