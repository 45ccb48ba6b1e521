use Rattle.std.proofs.Common.{◌≡◌, ◌++◌, map, drop}
use Rattle.std.specs.Option.{option_map}
use Rattle.cx_text.specs.Views.{seen}
use Rattle.cx_text.proofs.Taken.{each_of}
use Rattle.cx_text.proofs.reading.push_each.Given as goal

abbrev pub invariant-loop-word : goal.invariant-loop-word
invariant-loop-word l =
    option_map (λ vs. map seen l.values.items ++ vs) (each_of l.own l.field (drop l.word-index l.words))
    ≡ option_map (λ vs. map seen l.fn.values.items ++ vs) (each_of l.own l.field l.words)
