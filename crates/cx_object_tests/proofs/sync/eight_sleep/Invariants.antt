use Rattle.std.proofs.Common.{◌≡◌, ◌+◌}
use Rattle.std.specs.Arc.{arc_value}
use Rattle.cx_machine.specs.Semaphore as semaphore
use Rattle.cx_turn.specs.declared.view.View.{View}
use Rattle.cx_sync.specs.Sync.{IsSemaphorePass, IsSemaphorePassWith}
use Rattle.cx_object_tests.proofs.sync.eight_sleep.Given as goal

abbrev pub invariant-loop-started : goal.invariant-loop-started
invariant-loop-started g l = (v : View semaphore.Semaphore) × IsSemaphorePassWith (arc_value l.gate) l.first v × (v.number ≡ 0) × (v.splits ≡ l.started) × (v.left + l.started ≡ 100)

abbrev pub invariant-loop : goal.invariant-loop
invariant-loop g l = IsSemaphorePass (arc_value l.gate) l.first
