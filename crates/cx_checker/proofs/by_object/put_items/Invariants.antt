use Rattle.std.proofs.Common.{◌≡◌, ℕ, ◌<◌, ◌++◌, drop, length}
use Rattle.cx_history.specs.Histories.{changes_in}
use Rattle.cx_checker.specs.Views.{changes_at}
use Rattle.cx_checker.proofs.by_object.put_items.Given as goal

abbrev pub invariant-loop-i : goal.invariant-loop-i
invariant-loop-i l = record {
  count : length l.by_object.items ≡ length l.fn.by_object.items;
  put : (q : ℕ) → q < length l.fn.by_object.items → changes_at l.by_object.items q ++ changes_in q l.t l.i (drop l.i l.list) ≡ changes_at l.fn.by_object.items q ++ changes_in q l.t 0 l.list;
}
