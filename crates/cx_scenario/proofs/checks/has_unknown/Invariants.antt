use Rattle.std.proofs.Common.{◌≡◌, drop}
use Rattle.cx_scenario.specs.Views.{values_seen}
use Rattle.cx_scenario.specs.Checks.{any_unknown}
use Rattle.cx_scenario.proofs.checks.has_unknown.Given as goal

abbrev pub invariant-loop-field : goal.invariant-loop-field
invariant-loop-field l = any_unknown l.kept (drop l.field-index l.fields) (values_seen l.rest) ≡ any_unknown l.kept l.fields (values_seen l.values)
