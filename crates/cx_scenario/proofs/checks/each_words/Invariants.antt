use Rattle.std.proofs.Common.{◌≡◌, ◌++◌, drop}
use Rattle.cx_text.specs.Views.{now_all}
use Rattle.cx_scenario.specs.Views.{values_seen}
use Rattle.cx_scenario.specs.Checks.{each_words}
use Rattle.cx_scenario.proofs.checks.each_words.Given as goal

abbrev pub invariant-loop-field : goal.invariant-loop-field
invariant-loop-field l = now_all l.words.items ++ each_words (drop l.field-index l.fields) (values_seen l.rest) ≡ each_words l.fields (values_seen l.values)
