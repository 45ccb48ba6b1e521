use Rattle.std.proofs.Common.{◌≡◌, ℕ, ◌<◌, true, length, slice_get, Some}
use Rattle.cx_run.specs.declared.place.Place.{Place}
use Rattle.cx_run.specs.Runs.{MayRun, KeepsOut, has_come}
use Rattle.cx_run.proofs.run.Run.give_up.Given as goal

abbrev pub invariant-loop-i : goal.invariant-loop-i
invariant-loop-i g l = record {
  many : length l.others.items ≡ length l.initial.others.items;
  may : (j : ℕ) (p : Place _) → slice_get l.others.items j ≡ Some p → MayRun p;
  out : KeepsOut l.initial.others.items (g.P.Spawner.started l.initial.spawner) (g.P.Spawner.joined l.initial.spawner) l.others.items (g.P.Spawner.started l.spawner) (g.P.Spawner.joined l.spawner);
  come : (j : ℕ) (p : Place _) → j < l.i → slice_get l.others.items j ≡ Some p → has_come p ≡ true;
}
