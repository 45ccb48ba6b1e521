use Rattle.std.proofs.Common.{◌≡◌, ◌++◌, filter, length}
use Rattle.std.specs.List.{slice_split}
use Rattle.cx_text.specs.Lines.{is_word, is_blank}
use Rattle.cx_text.specs.Views.{now_all}
use Rattle.cx_text.proofs.words.split_words.Given as goal

abbrev pub invariant-loop-rest : goal.invariant-loop-rest
invariant-loop-rest l = now_all l.words.items ++ filter is_word (slice_split is_blank l.rest) ≡ filter is_word (slice_split is_blank l.fn.line)

abbrev pub decreases-loop-rest : goal.decreases-loop-rest
decreases-loop-rest l = length l.rest
