use Rattle.std.proofs.Common.{◌≡◌, ◌++◌, drop, map, filter}
use Rattle.cx_script.specs.Script.{is_object, Declaration}
use Rattle.cx_scenario.specs.Whole.{declaration_seen}
use Rattle.cx_scenario.proofs.roll.object_names.Given as goal

abbrev pub invariant-loop-d : goal.invariant-loop-d
invariant-loop-d l = map (λ n. n.items) l.names.items ++ map (λ (d : Declaration). d.name) (filter is_object (map declaration_seen (drop l.d-index l.declarations))) ≡ map (λ (d : Declaration). d.name) (filter is_object (map declaration_seen l.declarations))
