use Rattle.std.proofs.Common.{◌≡◌, drop}
use Rattle.cx_text.specs.Views.{now_all}
use Rattle.cx_script.specs.Faults.{has_repeated}
use Rattle.cx_scenario.proofs.checks.has_repeated.Given as goal

abbrev pub invariant-loop-word : goal.invariant-loop-word
invariant-loop-word l = record {
  left : l.rest ≡ drop l.word-index l.words;
  so_far : has_repeated (now_all l.rest) ≡ has_repeated (now_all l.words);
}
