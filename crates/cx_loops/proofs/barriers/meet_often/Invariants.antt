use Rattle.std.proofs.Common.{◌+◌, ◌≤◌}
use Rattle.cx_barrier.specs.Barriers.{IsBarrierPass}
use Rattle.cx_loops.proofs.barriers.meet_often.Given as goal

abbrev pub invariant-loop-i : goal.invariant-loop-i
invariant-loop-i g l = IsBarrierPass l.barrier l.pass × (l.pass.pass.left + l.i ≤ l.fn.pass.pass.left) × (l.fn.pass.pass.left ≤ l.pass.pass.left + (l.i + l.i))
