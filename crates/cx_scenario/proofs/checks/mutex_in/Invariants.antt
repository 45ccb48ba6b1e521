use Rattle.std.proofs.Common.{◌≡◌, drop}
use Rattle.cx_scenario.specs.Views.{values_seen}
use Rattle.cx_script.specs.Faults.{mutex_among, is_mutex}
use Rattle.cx_scenario.proofs.checks.mutex_in.Given as goal

abbrev pub invariant-loop-value : goal.invariant-loop-value
invariant-loop-value l = mutex_among (is_mutex l.kept) (values_seen (drop l.value-index l.values)) ≡ mutex_among (is_mutex l.kept) (values_seen l.values)
