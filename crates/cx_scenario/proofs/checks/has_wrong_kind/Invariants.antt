use Rattle.std.proofs.Common.{◌≡◌, drop}
use Rattle.cx_scenario.specs.Views.{values_seen}
use Rattle.cx_script.specs.Earlier.{fits_sort}
use Rattle.cx_script.specs.Faults.{any_misfit}
use Rattle.cx_scenario.proofs.checks.has_wrong_kind.Given as goal

abbrev pub invariant-loop-field : goal.invariant-loop-field
invariant-loop-field l = any_misfit (fits_sort l.kept l.me) (drop l.field-index l.fields) (values_seen l.rest) ≡ any_misfit (fits_sort l.kept l.me) l.fields (values_seen l.values)
