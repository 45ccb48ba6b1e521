use Rattle.std.proofs.Common.{◌≡◌}
use Rattle.cx_run.specs.Runs.{tally, objects_at, IsRun, KeepsTally, AreMains, KeepsOut}
use Rattle.cx_run.proofs.run.Run.make_main.Given as goal

abbrev pub invariant-loop : goal.invariant-loop
invariant-loop g l =
    (goal.iterator-loop g).can_next l.iterator' × (goal.iterator-loop g).is_finite l.iterator'
    × IsRun (objects_at l.initial.self) l.self
    × (l.self.objects ≡ l.initial.self.objects)
    × KeepsTally l.initial.self (tally (g.P.Spawner.faults l.initial.spawner) (g.P.Spawner.started l.initial.spawner) (g.P.Spawner.carried l.initial.spawner)) l.self (tally (g.P.Spawner.faults l.spawner) (g.P.Spawner.started l.spawner) (g.P.Spawner.carried l.spawner))
    × AreMains l.self.main.list.items l.self.others.items
    × KeepsOut l.initial.self.others.items (g.P.Spawner.started l.initial.spawner) (g.P.Spawner.joined l.initial.spawner) l.self.others.items (g.P.Spawner.started l.spawner) (g.P.Spawner.joined l.spawner)
