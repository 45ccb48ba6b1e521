use Rattle.std.proofs.Common.{◌≡◌, ◌∷◌, map, Some}
use Rattle.cx_history.specs.Views.{listed}
use Rattle.cx_run.specs.Runs.{list_at}
use Rattle.cx_run.proofs.run.Run.into_record.Given as goal

abbrev pub invariant-loop-place : goal.invariant-loop-place
invariant-loop-place g l =
    (goal.iterator-loop-place g).can_next l.place-iterator × (goal.iterator-loop-place g).is_finite l.place-iterator
    × (map listed l.lists.items ≡ Some l.fn.self.main.list.items ∷ map list_at l.yielded)
