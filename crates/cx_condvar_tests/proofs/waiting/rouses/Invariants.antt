use Rattle.cx_condvar.specs.Condvars.{IsCondPass}
use Rattle.cx_condvar_tests.proofs.waiting.rouses.Given as goal

abbrev pub invariant-loop : goal.invariant-loop
invariant-loop g l = IsCondPass l.condition l.pass
