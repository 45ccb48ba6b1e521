use Rattle.std.proofs.Common.{◌∙◌, sym, drop}
use Rattle.cx_script.specs.Earlier.{fits_sort}
use Rattle.cx_scenario.proofs.Short.{misfit_short}
use Rattle.cx_scenario.proofs.checks.has_wrong_kind.Goals as goal

pub returns-in-empty : goal.returns-in-empty
returns-in-empty c = sym (misfit_short (fits_sort c.args.kept.now c.args.me.now) (drop c.loop-field.field-index c.args.fields.now) c.loop-field.rest.now c.in-empty.len_below) ∙ c.loop-field.invariant
