use Rattle.std.proofs.Common.{◌≡◌, drop}
use Rattle.cx_scenario.specs.Views.{values_seen}
use Rattle.cx_scenario.specs.Checks.{any_outside}
use Rattle.cx_scenario.proofs.checks.any_outside.Given as goal

abbrev pub invariant-loop-field : goal.invariant-loop-field
invariant-loop-field l = any_outside l.numbers (drop l.field-index l.fields) (values_seen l.rest) ≡ any_outside l.numbers l.fields (values_seen l.values)
