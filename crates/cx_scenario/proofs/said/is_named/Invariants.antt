use Rattle.std.proofs.Common.{◌≡◌, drop, map, Some}
use Rattle.cx_text.specs.Words.{is_one_of}
use Rattle.cx_script.specs.Earlier.{word_in}
use Rattle.cx_scenario.specs.Views.{values_seen}
use Rattle.cx_scenario.proofs.said.is_named.Given as goal

abbrev pub invariant-loop-value : goal.invariant-loop-value
invariant-loop-value l = is_one_of (map (λ v. word_in (Some v)) (values_seen (drop l.value-index l.values))) l.name ≡ is_one_of (map (λ v. word_in (Some v)) (values_seen l.values)) l.name
