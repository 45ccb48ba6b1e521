use Rattle.cx_barrier.specs.Barriers.{IsBarrierPass}
use Rattle.cx_object_tests.proofs.barrier.all_phases.Given as goal

abbrev pub invariant-loop : goal.invariant-loop
invariant-loop g l = IsBarrierPass l.barrier l.pass
