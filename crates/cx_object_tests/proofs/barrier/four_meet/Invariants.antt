use Rattle.std.proofs.Common.{◌≡◌, ◌+◌, ◌*◌}
use Rattle.std.specs.Arc.{arc_value}
use Rattle.cx_machine.specs.Barrier as machine
use Rattle.cx_turn.specs.declared.view.View.{View}
use Rattle.cx_barrier.specs.Barriers.{IsBarrierPassWith}
use Rattle.cx_object_tests.proofs.barrier.four_meet.Given as goal

abbrev pub invariant-loop-started : goal.invariant-loop-started
invariant-loop-started g l = (v : View machine.Barrier) × IsBarrierPassWith (arc_value l.barrier) l.first v × (v.number ≡ 0) × (v.splits + 1 ≡ l.started) × (v.left + 200 * l.started ≡ 1200)
