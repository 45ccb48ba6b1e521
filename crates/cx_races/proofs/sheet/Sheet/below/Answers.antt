use Rattle.std.proofs.Common.{◌<◌, ap, rules, ltb, arith, ltb-true, ltb-false, true, false, length}
use Rattle.std.proofs.lemmas.List.Sorted.{IsPartitionPoint-from_clause, IsPartitionedBy-ltb}
use Rattle.std.specs.List.Sorted.{IsNonDecreasingBy}
use Rattle.cx_races.specs.Sheets.{rank_of}
use Rattle.cx_races.proofs.Lanes.{reads, tested}
use Rattle.cx_races.proofs.sheet.Sheet.below.Goals as goal

pub returns-clause-within : goal.returns-clause-within
returns-clause-within c = let same = ap length c.deref.ensures.value in omega (arith, c.partition_point.ensures.bound, same)

pub returns-clause-low : goal.returns-clause-low
returns-clause-low c =
    let xs = c.deref.result.now in
    let rising : IsNonDecreasingBy rank_of xs = rw c.deref.ensures.value c.args.self.now.rising in
    let parted = IsPartitionedBy-ltb rank_of xs c.args.rank rising in
    let point = IsPartitionPoint-from_clause (λ g. ltb (rank_of g) c.args.rank) xs c.partition_point.result c.partition_point.ensures.partitioned parted (λ a r q k. search rules) in
    λ k g h at_. ltb-true (rank_of g) c.args.rank (tested xs c.args.self.now.accesses.items k g c.args.rank true c.deref.ensures.value at_ (point.0 k g (omega arith) h))

pub returns-clause-high : goal.returns-clause-high
returns-clause-high c =
    let xs = c.deref.result.now in
    let rising : IsNonDecreasingBy rank_of xs = rw c.deref.ensures.value c.args.self.now.rising in
    let parted = IsPartitionedBy-ltb rank_of xs c.args.rank rising in
    let point = IsPartitionPoint-from_clause (λ g. ltb (rank_of g) c.args.rank) xs c.partition_point.result c.partition_point.ensures.partitioned parted (λ a r q k. search rules) in
    λ k g h at_.
    let low : k < length xs = let r = (reads c.args.self.now.accesses.items k g g at_).0 in let same = ap length c.deref.ensures.value in omega (arith, r, same) in
    ltb-false (rank_of g) c.args.rank (tested xs c.args.self.now.accesses.items k g c.args.rank false c.deref.ensures.value at_ (point.1 k g h low))
