use Rattle.std.proofs.Common.{◌≡◌, ◌+◌, drop, map}
use Rattle.cx_script.specs.Script.{place_in}
use Rattle.cx_scenario.specs.Views.{group_name}
use Rattle.cx_scenario.proofs.finishing.place_of.Given as goal

abbrev pub invariant-loop-i : goal.invariant-loop-i
invariant-loop-i l = l.i + place_in (map group_name (drop l.i l.groups)) l.name ≡ place_in (map group_name l.groups) l.name
