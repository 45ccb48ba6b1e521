use Rattle.std.proofs.Common.{rules}
use Rattle.std.proofs.lemmas.List.Sorted.{IsNonDecreasingBy-from_sort_by_key}
use Rattle.cx_graph.proofs.Tallies.{counted_alike}
use Rattle.cx_graph.proofs.tally.Tally.of.Goals as goal

pub invariant_of-result : goal.invariant_of-result
invariant_of-result c = record { rising = IsNonDecreasingBy-from_sort_by_key (λ n. n) c.sort_by_key.new.self.items c.in_ok-sort_by_key.ensures.sorted (λ a r q k. search rules) }

pub returns : goal.returns
returns c = counted_alike c.args.numbers.items c.sort_by_key.new.self.items c.sort_by_key.ensures.permutation
