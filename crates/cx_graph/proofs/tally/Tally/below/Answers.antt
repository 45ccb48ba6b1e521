use Rattle.std.proofs.Common.{◌∙◌, ap, sym, rules, ltb, arith}
use Rattle.std.proofs.lemmas.List.Sorted.{IsPartitionPoint-from_clause, IsPartitionedBy-ltb}
use Rattle.std.specs.List.Sorted.{IsNonDecreasingBy}
use Rattle.cx_graph.specs.Tally.{count_below}
use Rattle.cx_graph.proofs.Tallies.{counted_to}
use Rattle.cx_graph.proofs.tally.Tally.below.Goals as goal

pub returns : goal.returns
returns c =
    let xs = c.deref.result.now in
    let rising : IsNonDecreasingBy (λ n. n) xs = rw c.deref.ensures.value c.args.self.now.rising in
    let parted = IsPartitionedBy-ltb (λ n. n) xs c.args.bound rising in
    let point = IsPartitionPoint-from_clause (λ n. ltb n c.args.bound) xs c.partition_point.result c.partition_point.ensures.partitioned parted (λ a r q k. search rules) in
    sym (counted_to xs c.partition_point.result c.args.bound c.partition_point.ensures.bound (λ k h. point.0 k 0 (omega arith) h) (λ k l h. point.1 k 0 l h)) ∙ ap (count_below c.args.bound) c.deref.ensures.value
