use Rattle.std.proofs.Common.{◌≡◌, ℕ, ◌<◌, ◌++◌, drop, length}
use Rattle.cx_checker.specs.Looks.{looks_in, looks_at}
use Rattle.cx_checker.proofs.looks.put_items.Given as goal

abbrev pub invariant-loop-i : goal.invariant-loop-i
invariant-loop-i l = record {
  count : length l.by_object.items ≡ length l.fn.by_object.items;
  put : (q : ℕ) → q < length l.fn.by_object.items → looks_at l.by_object.items q ++ looks_in q (drop l.i l.list) ≡ looks_at l.fn.by_object.items q ++ looks_in q l.list;
}
