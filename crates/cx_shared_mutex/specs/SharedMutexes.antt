-- What a clause says of a shared mutex, its passes and holds.
use Rattle.std.specs.Prelude.{◌≡◌, ℕ, ◌+◌, Bool, true, false, pos}
use Rattle.cx_names.specs.declared.Reply.TheVariants as replies
use Rattle.cx_machine.specs.declared.kind.Entry.{Entry}
use Rattle.cx_machine.specs.declared.kind.Look.{Look}
use Rattle.cx_machine.specs.declared.kind.Op.TheVariants as ops
use Rattle.cx_machine.specs.Meaning.{change, look_of}
use Rattle.cx_machine.specs.Shared as machine
use Rattle.cx_machine.specs.States.{shared_of}
use Rattle.cx_turn.specs.declared.view.View.{View}
use Rattle.cx_turn.specs.declared.pass.Pass.{Pass}
use Rattle.cx_turn.specs.Acts.{Makes, Looks}
use Rattle.cx_cell.specs.Cells.{IsCellPassWith, cell_seats}
use Rattle.cx_shared_mutex.specs.declared.shared_mutex.SharedMutex.{SharedMutex}
use Rattle.cx_shared_mutex.specs.declared.holds.Hold.{Hold}
use Rattle.cx_shared_mutex.specs.declared.holds.Shared.{Shared}
use Rattle.cx_shared_mutex.specs.declared.holds.Tried.{Tried}
use Rattle.cx_shared_mutex.specs.declared.holds.Tried.TheVariants as tries
use Rattle.cx_shared_mutex.specs.Kinds.{sharing}
use Rattle.cx_shared_mutex.specs.Owners.{Owning, WrittenByAnother, OwnedByAnother}

-- it is an idle pass of this shared mutex, and knows v
abbrev pub IsSharedPassWith : SharedMutex → Pass machine.Shared → View machine.Shared → Type 0
IsSharedPassWith x p v = IsCellPassWith shared_of sharing x.cell p v

abbrev pub IsSharedPass : SharedMutex → Pass machine.Shared → Type 0
IsSharedPass x p = (v : View machine.Shared) × IsSharedPassWith x p v

-- how many passes there may be
abbrev pub shared_seats : SharedMutex → ℕ
shared_seats x = cell_seats shared_of x.cell

-- whether the thread of the pass is the writer, and whether it is among the readers
abbrev pub IsOwning : SharedMutex → Pass machine.Shared → Bool → Bool → Type 0
IsOwning x p writing reading = (v : View machine.Shared) → IsSharedPassWith x p v → Owning writing reading v

-- the thread of the pass is neither
abbrev pub IsBare : SharedMutex → Pass machine.Shared → Type 0
IsBare x p = IsOwning x p false false

-- the hold is of the thread of the pass, which is the writer
abbrev pub IsHeldBy : SharedMutex → Pass machine.Shared → Hold → Type 0
IsHeldBy x p h = (h.by ≡ p.number) × IsOwning x p true false

-- the hold is of the thread of the pass, which is a reader
abbrev pub IsSharedBy : SharedMutex → Pass machine.Shared → Shared → Type 0
IsSharedBy x p h = (h.by ≡ p.number) × IsOwning x p false true

-- whether its thread is the writer or a reader stays as it was
abbrev pub KeepsOwner : SharedMutex → Pass machine.Shared → Pass machine.Shared → Type 0
KeepsOwner x p q = (writing reading : Bool) → IsOwning x p writing reading → IsOwning x q writing reading

-- another thread than that of the pass is the writer
abbrev pub IsWritten : SharedMutex → Pass machine.Shared → Type 0
IsWritten x p = (v : View machine.Shared) → IsSharedPassWith x p v → WrittenByAnother v

-- another thread than that of the pass is the writer or a reader
abbrev pub IsTaken : SharedMutex → Pass machine.Shared → Type 0
IsTaken x p = (v : View machine.Shared) → IsSharedPassWith x p v → OwnedByAnother v

-- the pass went on by this change alone, at the position n
abbrev pub SharedMakes : SharedMutex → Pass machine.Shared → Pass machine.Shared → Entry → ℕ → Type 0
SharedMakes x p q e n = (v : View machine.Shared) → IsSharedPassWith x p v → (w : View machine.Shared) × IsSharedPassWith x q w × Makes sharing v w e n

-- the pass went on by this look alone
abbrev pub SharedLooks : SharedMutex → Pass machine.Shared → Pass machine.Shared → Look → Type 0
SharedLooks x p q l = (v : View machine.Shared) → IsSharedPassWith x p v → (w : View machine.Shared) × IsSharedPassWith x q w × Looks sharing v w l

-- what an attempt to lock came to
abbrev pub TriesLock : SharedMutex → Pass machine.Shared → Pass machine.Shared → Tried Hold → Type 0
TriesLock x p q (tries.Got h n) = (q.left + 1 ≡ p.left) × IsHeldBy x q h × SharedMakes x p q (change p.number ops.TryLock (pos 0) (pos 0) replies.True) n
TriesLock x p q (tries.Not k) = (q.left ≡ p.left) × IsBare x q × IsTaken x q × SharedLooks x p q (look_of p.number ops.TryLock (pos 0) (pos 0) replies.False k)

-- what an attempt to share came to
abbrev pub TriesShared : SharedMutex → Pass machine.Shared → Pass machine.Shared → Tried Shared → Type 0
TriesShared x p q (tries.Got h n) = (q.left + 1 ≡ p.left) × IsSharedBy x q h × SharedMakes x p q (change p.number ops.TryLockShared (pos 0) (pos 0) replies.True) n
TriesShared x p q (tries.Not k) = (q.left ≡ p.left) × IsBare x q × IsWritten x q × SharedLooks x p q (look_of p.number ops.TryLockShared (pos 0) (pos 0) replies.False k)
