-- What a call on a barrier made of its pass.
use Rattle.std.specs.Prelude.{◌≡◌, ℕ, ◌+◌, pos, Option, Some, None}
use Rattle.cx_names.specs.declared.Reply.TheVariants as replies
use Rattle.cx_machine.specs.declared.kind.Entry.{Entry}
use Rattle.cx_machine.specs.declared.kind.Op.TheVariants as ops
use Rattle.cx_machine.specs.Meaning.{change, look_of}
use Rattle.cx_machine.specs.Barrier as machine
use Rattle.cx_turn.specs.declared.view.View.{View}
use Rattle.cx_turn.specs.Acts.{Makes, Looks}
use Rattle.cx_barrier.specs.declared.barrier.Barrier.{Barrier}
use Rattle.cx_barrier.specs.declared.pass.BarrierPass.{BarrierPass}
use Rattle.cx_barrier.specs.declared.calls.Arrived.{Arrived}
use Rattle.cx_barrier.specs.Kinds.{meeting}
use Rattle.cx_barrier.specs.Barriers.{IsBarrierPassWith, BarrierMakes}

-- the completion of a phase by the thread of this pass
abbrev pub completion_by : BarrierPass → Entry
completion_by p = change p.pass.number ops.Complete (pos 0) (pos 0) replies.Ok

-- how many changes the completion of a phase makes, and an arrival with it
abbrev pub ending_cost : Option ℕ → ℕ
ending_cost None = 0
ending_cost (Some at) = 1

abbrev pub cost_of : Arrived → ℕ
cost_of a = 1 + ending_cost a.completed

-- the pass completed its phase at this position, or did nothing
abbrev pub Ends : Barrier → BarrierPass → BarrierPass → Option ℕ → Type 0
Ends b p q None = q ≡ p
Ends b p q (Some m) = BarrierMakes b p q (completion_by p) m

-- this arrival was made at the position n: it was not the last one of its phase, or the phase was then completed at the position m
abbrev pub Went : View machine.Barrier → View machine.Barrier → Entry → Entry → ℕ → Option ℕ → Type 0
Went v w e c n None = (made : Makes meeting v w e n) × (made.after.completing ≡ None)
Went v w e c n (Some m) = (u : View machine.Barrier) × Makes meeting v u e n × Makes meeting u w c m

-- the pass made this arrival, and completed the phase where it was the last one
abbrev pub Arrives : Barrier → BarrierPass → BarrierPass → Entry → Arrived → Type 0
Arrives b p q e a = (v : View machine.Barrier) → IsBarrierPassWith b p v → (w : View machine.Barrier) × IsBarrierPassWith b q w × Went v w e (completion_by p) a.at a.completed

-- the same, and then a look at the completed phase
abbrev pub ArrivesAndWaits : Barrier → BarrierPass → BarrierPass → ℕ → Arrived → ℕ → Type 0
ArrivesAndWaits b p q phase a k = (v : View machine.Barrier) → IsBarrierPassWith b p v → (u w : View machine.Barrier) × IsBarrierPassWith b q w × Went v u (change p.pass.number ops.Arrive (pos 1) (pos 0) (replies.Number (pos phase))) (completion_by p) a.at a.completed × Looks meeting u w (look_of p.pass.number ops.Wait (pos phase) (pos 0) replies.Ok k)
