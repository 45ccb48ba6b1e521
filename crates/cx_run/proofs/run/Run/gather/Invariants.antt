use Rattle.std.proofs.Common.{◌≡◌, ℕ, ◌<◌, true, length, slice_get, Some}
use Rattle.cx_run.specs.declared.place.Place.{Place}
use Rattle.cx_run.specs.Runs.{tally, objects_at, IsRun, KeepsTally, KeepsOut, has_come}
use Rattle.cx_run.proofs.run.Run.gather.Given as goal

abbrev pub invariant-loop-i : goal.invariant-loop-i
invariant-loop-i g l = record {
  run : IsRun (objects_at l.initial.self) l.self;
  objects : l.self.objects ≡ l.initial.self.objects;
  list : l.self.main.list ≡ l.initial.self.main.list;
  local : l.self.main.local ≡ l.initial.self.main.local;
  many : length l.self.others.items ≡ length l.initial.self.others.items;
  counts : KeepsTally l.initial.self (tally (g.P.Spawner.faults l.initial.spawner) (g.P.Spawner.started l.initial.spawner) (g.P.Spawner.carried l.initial.spawner)) l.self (tally (g.P.Spawner.faults l.spawner) (g.P.Spawner.started l.spawner) (g.P.Spawner.carried l.spawner));
  out : KeepsOut l.initial.self.others.items (g.P.Spawner.started l.initial.spawner) (g.P.Spawner.joined l.initial.spawner) l.self.others.items (g.P.Spawner.started l.spawner) (g.P.Spawner.joined l.spawner);
  come : (j : ℕ) (p : Place _) → j < l.i → slice_get l.self.others.items j ≡ Some p → has_come p ≡ true;
}
