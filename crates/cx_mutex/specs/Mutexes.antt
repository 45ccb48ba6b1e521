-- What a clause says of a mutex, its passes and holds.
use Rattle.std.specs.Prelude.{◌≡◌, ℕ, ◌+◌, Bool, true, false, Option, None, MatchOption, pos}
use Rattle.cx_names.specs.declared.Reply.TheVariants as replies
use Rattle.cx_machine.specs.declared.kind.Entry.{Entry}
use Rattle.cx_machine.specs.declared.kind.Look.{Look}
use Rattle.cx_machine.specs.declared.kind.Op.TheVariants as ops
use Rattle.cx_machine.specs.Meaning.{change, look_of}
use Rattle.cx_machine.specs.Mutex as machine
use Rattle.cx_turn.specs.declared.view.View.{View}
use Rattle.cx_turn.specs.declared.pass.Pass.{Pass}
use Rattle.cx_cell.specs.Cells.{IsCellPassWith, cell_seats}
use Rattle.cx_turn.specs.Acts.{Makes, Looks}
use Rattle.cx_mutex.specs.declared.mutex.Mutex.{Mutex}
use Rattle.cx_mutex.specs.declared.mutex.Hold.{Hold}
use Rattle.cx_mutex.specs.declared.mutex.Tried.{Tried}
use Rattle.cx_mutex.specs.declared.mutex.Tried.TheVariants as tries
use Rattle.cx_mutex.specs.Kinds.{locking, kept}
use Rattle.cx_mutex.specs.Owners.{Owning, OwnedByAnother}

-- it is an idle pass of this mutex, and knows v
abbrev pub IsMutexPassWith : Mutex → Pass machine.Mutex → View machine.Mutex → Type 0
IsMutexPassWith x p v = IsCellPassWith kept locking x.cell p v

abbrev pub IsMutexPass : Mutex → Pass machine.Mutex → Type 0
IsMutexPass x p = (v : View machine.Mutex) × IsMutexPassWith x p v

-- how many passes there may be
abbrev pub mutex_seats : Mutex → ℕ
mutex_seats x = cell_seats kept x.cell

-- the thread of the pass doesn't own the mutex
abbrev pub IsBare : Mutex → Pass machine.Mutex → Type 0
IsBare x p = (v : View machine.Mutex) → IsMutexPassWith x p v → Owning false v

-- the hold is of the thread of the pass, which owns the mutex
abbrev pub IsHeldBy : Mutex → Pass machine.Mutex → Hold → Type 0
IsHeldBy x p h = (h.by ≡ p.number) × ((v : View machine.Mutex) → IsMutexPassWith x p v → Owning true v)

-- another thread than that of the pass owns the mutex
abbrev pub IsTaken : Mutex → Pass machine.Mutex → Type 0
IsTaken x p = (v : View machine.Mutex) → IsMutexPassWith x p v → OwnedByAnother v

-- whether its thread owns the mutex stays as it was
abbrev pub KeepsOwner : Mutex → Pass machine.Mutex → Pass machine.Mutex → Type 0
KeepsOwner x p q = (b : Bool) → ((v : View machine.Mutex) → IsMutexPassWith x p v → Owning b v) → (w : View machine.Mutex) → IsMutexPassWith x q w → Owning b w

-- the pass went on by this change alone, at the position n
abbrev pub MutexMakes : Mutex → Pass machine.Mutex → Pass machine.Mutex → Entry → ℕ → Type 0
MutexMakes x p q e n = (v : View machine.Mutex) → IsMutexPassWith x p v → (w : View machine.Mutex) × IsMutexPassWith x q w × Makes locking v w e n

-- the pass went on by this look alone
abbrev pub MutexLooks : Mutex → Pass machine.Mutex → Pass machine.Mutex → Look → Type 0
MutexLooks x p q l = (v : View machine.Mutex) → IsMutexPassWith x p v → (w : View machine.Mutex) × IsMutexPassWith x q w × Looks locking v w l

-- what an attempt to lock came to
abbrev pub TriesIt : Mutex → Pass machine.Mutex → Pass machine.Mutex → Tried Hold → Type 0
TriesIt x p q (tries.Got h n) = (q.left + 1 ≡ p.left) × IsHeldBy x q h × MutexMakes x p q (change p.number ops.TryLock (pos 0) (pos 0) replies.True) n
TriesIt x p q (tries.Not k) = (q.left ≡ p.left) × IsBare x q × IsTaken x q × MutexLooks x p q (look_of p.number ops.TryLock (pos 0) (pos 0) replies.False k)

-- what an attempt to lock by a lock of its own came to
abbrev pub UniqueTries : Mutex → Pass machine.Mutex → Pass machine.Mutex → Option Hold → Bool → ℕ → Type 0
UniqueTries x p q held true n = (q.left + 1 ≡ p.left) × MatchOption held ⊥ (λ h. IsHeldBy x q h) × MutexMakes x p q (change p.number ops.TryLock (pos 0) (pos 0) replies.True) n
UniqueTries x p q held false k = (held ≡ None) × (q.left ≡ p.left) × IsBare x q × IsTaken x q × MutexLooks x p q (look_of p.number ops.TryLock (pos 0) (pos 0) replies.False k)
