use Rattle.std.proofs.Common.{◌≡◌, ◌++◌, ◌∷◌, map, drop, codes}
use Rattle.std.specs.String.{string_bytes}
use Rattle.cx_command_line.proofs.command.with_program.Given as goal

abbrev pub invariant-loop-word : goal.invariant-loop-word
invariant-loop-word l = map (λ s. s.now) l.all.items ++ map string_bytes (drop l.word-index l.words) ≡ codes "cxthread" ∷ map string_bytes l.words
