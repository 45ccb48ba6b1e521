use Rattle.cx_object_tests.specs.GoesOn.{kept, counting}
use Rattle.cx_cell.specs.Cells.{IsCellPass}
use Rattle.cx_object_tests.proofs.cell.falls_asleep.Given as goal

abbrev pub invariant-loop : goal.invariant-loop
invariant-loop g l = IsCellPass kept counting l.cell l.pass
