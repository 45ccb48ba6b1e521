-- What a thread of a loop may do with its pass of a barrier.
use Rattle.std.specs.Prelude.{ℕ, ◌+◌, ◌≤◌}
use Rattle.cx_barrier.specs.declared.barrier.Barrier.{Barrier}
use Rattle.cx_barrier.specs.declared.pass.BarrierPass.{BarrierPass}
use Rattle.cx_barrier.specs.Barriers.{IsBarrierPass}

-- it may arrive and wait so often
abbrev pub MayMeet : Barrier → BarrierPass → ℕ → Type 0
MayMeet b p n = IsBarrierPass b p × (n + n ≤ p.pass.left)
