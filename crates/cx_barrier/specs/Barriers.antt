-- What a clause says of a barrier, its passes and the phases that they are to complete.
use Rattle.std.specs.Prelude.{◌≡◌, ◌⊎◌, ℕ, ◌<◌, ◌≤◌, ◌^◌, ℤ, pos, Option, Some, is_some, option_map, MatchOption}
use Rattle.cx_machine.specs.declared.kind.Entry.{Entry}
use Rattle.cx_machine.specs.declared.kind.Look.{Look}
use Rattle.cx_machine.specs.declared.kind.Op.{Op}
use Rattle.cx_machine.specs.declared.kind.Op.TheVariants as ops
use Rattle.cx_machine.specs.Barrier as machine
use Rattle.cx_turn.specs.declared.view.View.{View}
use Rattle.cx_turn.specs.Acts.{Makes, Looks}
use Rattle.cx_cell.specs.Cells.{IsCellPassWith, cell_seats}
use Rattle.cx_cell.specs.Seen.{At}
use Rattle.cx_barrier.specs.declared.barrier.Barrier.{Barrier}
use Rattle.cx_barrier.specs.declared.pass.BarrierPass.{BarrierPass}
use Rattle.cx_barrier.specs.declared.acts.Completing.{Completing}
use Rattle.cx_barrier.specs.declared.acts.Counted.{Counted}
use Rattle.cx_barrier.specs.Kinds.{meeting, kept}
use Rattle.cx_barrier.specs.Phases.{last_phase}

-- it is an idle pass of this barrier, and knows v; its phase is that of the last of its arrivals in what it has seen
pub record IsBarrierPassWith (b : Barrier) (p : BarrierPass) (v : View machine.Barrier) : Type 0 where
  pub pass : IsCellPassWith kept meeting b.cell p.pass v
  pub phase : last_phase v.number v.front ≡ option_map pos p.phase

abbrev pub IsBarrierPass : Barrier → BarrierPass → Type 0
IsBarrierPass b p = (v : View machine.Barrier) × IsBarrierPassWith b p v

-- how many passes there may be
abbrev pub barrier_seats : Barrier → ℕ
barrier_seats b = cell_seats kept b.cell

-- the pass went on by this change alone, at the position n
abbrev pub BarrierMakes : Barrier → BarrierPass → BarrierPass → Entry → ℕ → Type 0
BarrierMakes b p q e n = (v : View machine.Barrier) → IsBarrierPassWith b p v → (w : View machine.Barrier) × IsBarrierPassWith b q w × Makes meeting v w e n

-- the pass went on by this look alone
abbrev pub BarrierLooks : Barrier → BarrierPass → BarrierPass → Look → Type 0
BarrierLooks b p q l = (v : View machine.Barrier) → IsBarrierPassWith b p v → (w : View machine.Barrier) × IsBarrierPassWith b q w × Looks meeting v w l

-- this thread is to complete the phase
abbrev pub Completes : machine.Barrier → ℕ → Type 0
Completes b n = b.completing ≡ Some n

-- the phase is to be completed by the thread of the pass
abbrev pub IsCompleting : Barrier → BarrierPass → Completing → Type 0
IsCompleting b p c = (c.by ≡ p.pass.number) × ((v : View machine.Barrier) → IsBarrierPassWith b p v → At meeting.step Completes v)

-- what its thread is to complete stays so
abbrev pub KeepsCompleting : Barrier → BarrierPass → BarrierPass → Type 0
KeepsCompleting b p q = (c : Completing) → IsCompleting b p c → IsCompleting b q c

-- a phase, if there is one, that is to be completed by the thread of the pass
abbrev pub IsDueBy : Barrier → BarrierPass → Option Completing → Type 0
IsDueBy b p o = MatchOption o (Unit {0}) (λ c. IsCompleting b p c)

-- the word and the number of an arrival
abbrev pub IsArrival : Op → ℤ → Type 0
IsArrival op a = ((op ≡ ops.Arrive) × ((n : ℕ) × (a ≡ pos n) × (1 ≤ n) × (n < 2 ^ 32))) ⊎ ((op ≡ ops.Drop) × (a ≡ pos 0))

-- the pass made this arrival alone. Its thread is to complete the phase exactly where the arrival was the last one
abbrev pub Counts : Barrier → BarrierPass → BarrierPass → Entry → Counted → Type 0
Counts b p q e c = IsDueBy b q c.completing × ((v : View machine.Barrier) → IsBarrierPassWith b p v → (w : View machine.Barrier) × IsBarrierPassWith b q w × ((made : Makes meeting v w e c.at) × (is_some made.after.completing ≡ is_some c.completing)))
