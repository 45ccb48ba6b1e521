use Rattle.std.proofs.Common.{◌≡◌, ℕ, ◌<◌, ◌++◌, drop, map, length}
use Rattle.cx_history.specs.Histories.{changes_from}
use Rattle.cx_history.specs.Views.{listed}
use Rattle.cx_checker.specs.Views.{changes_at}
use Rattle.cx_checker.proofs.by_object.changes_by_object.Given as goal

abbrev pub invariant-loop-t : goal.invariant-loop-t
invariant-loop-t l = record {
  count : length l.by_object.items ≡ l.fn.objects;
  each : (q : ℕ) → q < l.fn.objects → changes_at l.by_object.items q ++ changes_from q l.t (drop l.t (map listed l.lists)) ≡ changes_from q 0 (map listed l.lists);
}
