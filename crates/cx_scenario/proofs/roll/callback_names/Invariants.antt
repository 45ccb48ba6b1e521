use Rattle.std.proofs.Common.{◌≡◌, ◌++◌, drop, map, filter}
use Rattle.cx_script.specs.Script.{is_callback, Declaration}
use Rattle.cx_scenario.specs.Whole.{declaration_seen}
use Rattle.cx_scenario.proofs.roll.callback_names.Given as goal

abbrev pub invariant-loop-d : goal.invariant-loop-d
invariant-loop-d l = map (λ n. n.items) l.names.items ++ map (λ (d : Declaration). d.name) (filter is_callback (map declaration_seen (drop l.d-index l.declarations))) ≡ map (λ (d : Declaration). d.name) (filter is_callback (map declaration_seen l.declarations))
