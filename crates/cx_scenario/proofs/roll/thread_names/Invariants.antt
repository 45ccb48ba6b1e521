use Rattle.std.proofs.Common.{◌≡◌, ◌++◌, ◌∷◌, drop, map, filter}
use Rattle.cx_text.specs.Words.{main_word}
use Rattle.cx_script.specs.Script.{is_thread, Declaration}
use Rattle.cx_scenario.specs.Whole.{declaration_seen}
use Rattle.cx_scenario.proofs.roll.thread_names.Given as goal

abbrev pub invariant-loop-d : goal.invariant-loop-d
invariant-loop-d l = map (λ n. n.items) l.names.items ++ map (λ (d : Declaration). d.name) (filter is_thread (map declaration_seen (drop l.d-index l.declarations))) ≡ main_word ∷ map (λ (d : Declaration). d.name) (filter is_thread (map declaration_seen l.declarations))
