use Rattle.std.proofs.Common.{◌≡◌, take, map, Some}
use Rattle.cx_script.specs.Earlier.{word_in}
use Rattle.cx_script.specs.Script.{place_in}
use Rattle.cx_scenario.specs.Views.{values_seen}
use Rattle.cx_scenario.proofs.resolving.few_in.Given as goal

abbrev pub invariant-loop-value : goal.invariant-loop-value
invariant-loop-value l = l.few ≡ map (place_in l.names) (map (λ v. word_in (Some v)) (values_seen (take l.value-index l.values)))
