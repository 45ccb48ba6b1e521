use Rattle.std.proofs.Common.{◌≡◌, ◌++◌, drop, map, filter}
use Rattle.std.specs.List.{flat_map}
use Rattle.cx_script.specs.Script.{shown, bodies_from, is_thread}
use Rattle.cx_scenario.specs.Whole.{roll_seen, declaration_seen}
use Rattle.cx_scenario.proofs.writing.put_bodies.Given as goal

abbrev pub invariant-loop-d : goal.invariant-loop-d
invariant-loop-d l = l.out.items ++ flat_map shown (bodies_from (roll_seen l.roll) (filter is_thread (map declaration_seen (drop l.d-index l.declarations))) (map (λ b. b.items) l.rest)) ≡ l.fn.out.items ++ flat_map shown (bodies_from (roll_seen l.roll) (filter is_thread (map declaration_seen l.declarations)) (map (λ b. b.items) l.bodies))
