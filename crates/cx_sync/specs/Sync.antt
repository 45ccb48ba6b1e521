-- What a clause says of a semaphore, a latch and their passes.
use Rattle.std.specs.Prelude.{ℕ}
use Rattle.cx_machine.specs.Semaphore as semaphore
use Rattle.cx_machine.specs.Latch as latch
use Rattle.cx_machine.specs.declared.kind.Entry.{Entry}
use Rattle.cx_machine.specs.declared.kind.Look.{Look}
use Rattle.cx_turn.specs.declared.view.View.{View}
use Rattle.cx_turn.specs.declared.pass.Pass.{Pass}
use Rattle.cx_cell.specs.Cells.{IsCellPassWith, cell_seats}
use Rattle.cx_turn.specs.Acts.{Makes, Looks}
use Rattle.cx_sync.specs.declared.semaphore.Semaphore.{Semaphore}
use Rattle.cx_sync.specs.declared.latch.Latch.{Latch}
use Rattle.cx_sync.specs.Kinds.{counting, latching, kept}

-- it is an idle pass of this semaphore, and knows v
abbrev pub IsSemaphorePassWith : Semaphore → Pass semaphore.Semaphore → View semaphore.Semaphore → Type 0
IsSemaphorePassWith s p v = IsCellPassWith kept counting s.cell p v

abbrev pub IsSemaphorePass : Semaphore → Pass semaphore.Semaphore → Type 0
IsSemaphorePass s p = (v : View semaphore.Semaphore) × IsSemaphorePassWith s p v

-- how many passes there may be
abbrev pub semaphore_seats : Semaphore → ℕ
semaphore_seats s = cell_seats kept s.cell

-- the pass went on by this change alone, at the position n
abbrev pub SemaphoreMakes : Semaphore → Pass semaphore.Semaphore → Pass semaphore.Semaphore → Entry → ℕ → Type 0
SemaphoreMakes s p q e n = (v : View semaphore.Semaphore) → IsSemaphorePassWith s p v → (w : View semaphore.Semaphore) × IsSemaphorePassWith s q w × Makes counting v w e n

-- the pass went on by this look alone
abbrev pub SemaphoreLooks : Semaphore → Pass semaphore.Semaphore → Pass semaphore.Semaphore → Look → Type 0
SemaphoreLooks s p q l = (v : View semaphore.Semaphore) → IsSemaphorePassWith s p v → (w : View semaphore.Semaphore) × IsSemaphorePassWith s q w × Looks counting v w l

-- it is an idle pass of this latch, and knows v
abbrev pub IsLatchPassWith : Latch → Pass latch.Latch → View latch.Latch → Type 0
IsLatchPassWith l p v = IsCellPassWith kept latching l.cell p v

abbrev pub IsLatchPass : Latch → Pass latch.Latch → Type 0
IsLatchPass l p = (v : View latch.Latch) × IsLatchPassWith l p v

-- how many passes there may be
abbrev pub latch_seats : Latch → ℕ
latch_seats l = cell_seats kept l.cell

-- the pass went on by this change alone, at the position n
abbrev pub LatchMakes : Latch → Pass latch.Latch → Pass latch.Latch → Entry → ℕ → Type 0
LatchMakes l p q e n = (v : View latch.Latch) → IsLatchPassWith l p v → (w : View latch.Latch) × IsLatchPassWith l q w × Makes latching v w e n

-- the pass went on by this look alone
abbrev pub LatchLooks : Latch → Pass latch.Latch → Pass latch.Latch → Look → Type 0
LatchLooks l p q look = (v : View latch.Latch) → IsLatchPassWith l p v → (w : View latch.Latch) × IsLatchPassWith l q w × Looks latching v w look
