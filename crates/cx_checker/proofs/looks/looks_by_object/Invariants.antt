use Rattle.std.proofs.Common.{◌≡◌, ℕ, ◌<◌, ◌++◌, drop, map, length}
use Rattle.cx_history.specs.Views.{listed}
use Rattle.cx_checker.specs.Looks.{looks_from, looks_at}
use Rattle.cx_checker.proofs.looks.looks_by_object.Given as goal

abbrev pub invariant-loop-t : goal.invariant-loop-t
invariant-loop-t l = record {
  count : length l.by_object.items ≡ l.fn.objects;
  each : (q : ℕ) → q < l.fn.objects → looks_at l.by_object.items q ++ looks_from q (drop l.t (map listed l.lists)) ≡ looks_from q (map listed l.lists);
}
