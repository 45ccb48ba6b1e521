use Rattle.std.proofs.Common.{◌≡◌, drop}
use Rattle.cx_text.specs.Views.{now_all}
use Rattle.cx_text.specs.Words.{is_one_of}
use Rattle.cx_scenario.proofs.checks.is_one_of.Given as goal

abbrev pub invariant-loop-w : goal.invariant-loop-w
invariant-loop-w l = is_one_of (now_all (drop l.w-index l.words)) l.word ≡ is_one_of (now_all l.words) l.word
