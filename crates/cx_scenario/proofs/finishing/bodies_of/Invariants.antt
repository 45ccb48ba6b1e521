use Rattle.std.proofs.Common.{◌≡◌, ◌++◌, drop, map}
use Rattle.cx_scenario.specs.Views.{group_seen}
use Rattle.cx_scenario.specs.Finished.{calls_in, AllApart}
use Rattle.cx_scenario.proofs.finishing.bodies_of.Given as goal

abbrev pub invariant-loop-name : goal.invariant-loop-name
invariant-loop-name l = record {
  apart : AllApart (map (λ n. n.items) (drop l.name-index l.threads));
  so_far : map (λ b. b.items) l.bodies.items ++ map (calls_in (map group_seen l.left.items)) (map (λ n. n.items) (drop l.name-index l.threads)) ≡ map (calls_in (map group_seen l.fn.groups.items)) (map (λ n. n.items) l.threads);
}
