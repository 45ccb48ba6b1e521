use Rattle.std.proofs.Common.{rules}
use Rattle.std.proofs.lemmas.List.Sorted.{IsNonDecreasingBy-from_sort_by_key}
use Rattle.cx_races.specs.Sheets.{rank_of}
use Rattle.cx_races.proofs.Lanes.{small_in}
use Rattle.cx_races.proofs.sheet.Sheet.of.Goals as goal

pub invariant_of-result : goal.invariant_of-result
invariant_of-result c = record {
  rising = IsNonDecreasingBy-from_sort_by_key rank_of c.sort_by_key.new.self.items c.in_ok-sort_by_key.ensures.sorted (λ a r q k. search rules);
  small = small_in c.in_ok-sorted.sorted.items c.sort_by_key.new.self.items c.in_ok-sort_by_key.ensures.permutation c.in_ok-sorted.ensures.small;
}
