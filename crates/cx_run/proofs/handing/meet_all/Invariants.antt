use Rattle.std.proofs.Common.{◌≡◌, slice_get, Some}
use Rattle.cx_kinds.specs.declared.access.Access.{Access}
use Rattle.cx_run.specs.Handing.{IsAsBefore, HasMet}
use Rattle.cx_run.proofs.Passed.{GoneSoFar}
use Rattle.cx_run.proofs.handing.meet_all.Given as goal

abbrev pub invariant-loop-i : goal.invariant-loop-i
invariant-loop-i l = record {
  from : GoneSoFar l.initial.from l.from (λ o k k'. IsAsBefore k k') l.i;
  to : GoneSoFar l.initial.to l.to (λ o k k'. (other : Access) → slice_get l.initial.from o ≡ Some other → HasMet other k k') l.i;
}
