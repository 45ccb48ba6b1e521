use Rattle.std.proofs.Common.{◌≡◌, ◌+◌}
use Rattle.cx_condvar.specs.Condvars.{IsCondPass}
use Rattle.cx_loops.proofs.conditions.notify_often.Given as goal

abbrev pub invariant-loop-done : goal.invariant-loop-done
invariant-loop-done g l = IsCondPass l.condition l.pass × (l.pass.left + l.done ≡ l.fn.pass.left)
