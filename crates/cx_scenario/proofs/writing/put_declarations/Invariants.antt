use Rattle.std.proofs.Common.{◌≡◌, ◌++◌, take, map}
use Rattle.std.specs.List.{flat_map}
use Rattle.cx_script.specs.Script.{shown}
use Rattle.cx_scenario.specs.Whole.{roll_seen, declaration_line, declaration_seen}
use Rattle.cx_scenario.proofs.writing.put_declarations.Given as goal

abbrev pub invariant-loop-d : goal.invariant-loop-d
invariant-loop-d l = l.out.items ≡ l.fn.out.items ++ flat_map shown (map (declaration_line (roll_seen l.roll)) (map declaration_seen (take l.d-index l.declarations)))
