use Rattle.std.proofs.Common.{◌≡◌, ◌++◌, drop, map}
use Rattle.cx_script.specs.Script.{declarations_of}
use Rattle.cx_scenario.specs.Views.{filled, names_seen}
use Rattle.cx_scenario.specs.Whole.{declaration_seen}
use Rattle.cx_scenario.proofs.finishing.declarations_of.Given as goal

abbrev pub invariant-loop-line : goal.invariant-loop-line
invariant-loop-line l = map declaration_seen l.out.items ++ declarations_of (names_seen l.names) (map filled (drop l.line-index l.kept)) ≡ declarations_of (names_seen l.names) (map filled l.kept)
