use Rattle.std.proofs.Common.{◌≡◌, ◌+◌}
use Rattle.std.specs.Arc.{arc_value}
use Rattle.cx_machine.specs.Latch as latch
use Rattle.cx_machine.specs.Shared as machine
use Rattle.cx_turn.specs.declared.view.View.{View}
use Rattle.cx_shared_mutex.specs.SharedMutexes.{IsSharedPassWith, IsBare}
use Rattle.cx_sync.specs.Sync.{IsLatchPassWith}
use Rattle.cx_loops.proofs.shared_mutexes.together.Given as goal

abbrev pub invariant-loop-started : goal.invariant-loop-started
invariant-loop-started g l =
    ((v : View machine.Shared) × IsSharedPassWith (arc_value l.mutex) l.first v × (v.number ≡ 0) × (v.splits + 1 ≡ l.started)) × IsBare (arc_value l.mutex) l.first
    × ((v : View latch.Latch) × IsLatchPassWith (arc_value l.gate) l.ticket v × (v.number ≡ 0) × (v.splits + 1 ≡ l.started) × (v.left + l.started ≡ l.threads + 1) × (v.share + l.started ≡ l.threads + 1))
