use Rattle.std.proofs.Common.{◌≡◌, ◌+◌}
use Rattle.std.specs.Arc.{arc_value}
use Rattle.cx_machine.specs.Shared as machine
use Rattle.cx_turn.specs.declared.view.View.{View}
use Rattle.cx_shared_mutex.specs.SharedMutexes.{IsSharedPassWith}
use Rattle.cx_object_tests.proofs.shared_threads.eight_work.Given as goal

abbrev pub invariant-loop-started : goal.invariant-loop-started
invariant-loop-started g l = (v : View machine.Shared) × IsSharedPassWith (arc_value l.mutex) l.first v × (v.number ≡ 0) × (v.splits ≡ l.started) × (v.left + (l.started + l.started + l.started + l.started) ≡ 100)
