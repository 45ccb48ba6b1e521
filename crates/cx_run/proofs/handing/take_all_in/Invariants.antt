use Rattle.std.proofs.Common.{◌≡◌, slice_get, Some, length}
use Rattle.cx_kinds.specs.declared.access.Access.{Access}
use Rattle.cx_run.specs.Handing.{TakesIn}
use Rattle.cx_run.proofs.Passed.{GoneSoFar}
use Rattle.cx_run.proofs.handing.take_all_in.Given as goal

abbrev pub invariant-loop-i : goal.invariant-loop-i
invariant-loop-i l =
    (goal.iterator-loop-i).can_next l.i-iterator × (goal.iterator-loop-i).is_finite l.i-iterator
    × GoneSoFar l.initial.accesses l.accesses (λ o k k'. (other : Access) → slice_get l.fn.others.items o ≡ Some other → TakesIn other k k') (length l.yielded)
