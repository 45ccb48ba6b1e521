-- What a clause says of a recursive mutex and its passes.
use Rattle.std.specs.Prelude.{◌≡◌, ℕ, ◌+◌, ◌<◌, pos}
use Rattle.cx_names.specs.declared.Reply.TheVariants as replies
use Rattle.cx_machine.specs.declared.kind.Entry.{Entry}
use Rattle.cx_machine.specs.declared.kind.Look.{Look}
use Rattle.cx_machine.specs.declared.kind.Op.TheVariants as ops
use Rattle.cx_machine.specs.Meaning.{change, look_of}
use Rattle.cx_machine.specs.Mutex as machine
use Rattle.cx_turn.specs.declared.view.View.{View}
use Rattle.cx_turn.specs.declared.pass.Pass.{Pass}
use Rattle.cx_cell.specs.Cells.{IsCellPassWith, cell_seats}
use Rattle.cx_turn.specs.Acts.{Makes, Looks}
use Rattle.cx_mutex.specs.declared.recursive.RecursiveMutex.{RecursiveMutex}
use Rattle.cx_mutex.specs.declared.recursive.Level.{Level}
use Rattle.cx_mutex.specs.declared.mutex.Tried.{Tried}
use Rattle.cx_mutex.specs.declared.mutex.Tried.TheVariants as tries
use Rattle.cx_mutex.specs.Kinds.{locking, kept}
use Rattle.cx_mutex.specs.Owners.{AtLevel}

-- it is an idle pass of this mutex, and knows v
abbrev pub IsRecursivePassWith : RecursiveMutex → Pass machine.Mutex → View machine.Mutex → Type 0
IsRecursivePassWith x p v = IsCellPassWith kept locking x.cell p v

abbrev pub IsRecursivePass : RecursiveMutex → Pass machine.Mutex → Type 0
IsRecursivePass x p = (v : View machine.Mutex) × IsRecursivePassWith x p v

-- how many passes there may be
abbrev pub recursive_seats : RecursiveMutex → ℕ
recursive_seats x = cell_seats kept x.cell

-- the pass went on by this change alone, at the position n
abbrev pub RecursiveMakes : RecursiveMutex → Pass machine.Mutex → Pass machine.Mutex → Entry → ℕ → Type 0
RecursiveMakes x p q e n = (v : View machine.Mutex) → IsRecursivePassWith x p v → (w : View machine.Mutex) × IsRecursivePassWith x q w × Makes locking v w e n

-- the pass went on by this look alone
abbrev pub RecursiveLooks : RecursiveMutex → Pass machine.Mutex → Pass machine.Mutex → Look → Type 0
RecursiveLooks x p q l = (v : View machine.Mutex) → IsRecursivePassWith x p v → (w : View machine.Mutex) × IsRecursivePassWith x q w × Looks locking v w l

-- the thread of the pass owns the mutex at so many levels
abbrev pub HasLevels : RecursiveMutex → Pass machine.Mutex → ℕ → Type 0
HasLevels x p n = (v : View machine.Mutex) → IsRecursivePassWith x p v → AtLevel n v

-- the level is of the thread of the pass, which owns the mutex
abbrev pub IsLevelOf : RecursiveMutex → Pass machine.Mutex → Level → Type 0
IsLevelOf x p l = (l.by ≡ p.number) × (n : ℕ) × HasLevels x p (n + 1)

-- its thread has as many levels as before, one more, which is at most 1,000, or one less
abbrev pub KeepsLevels : RecursiveMutex → Pass machine.Mutex → Pass machine.Mutex → Type 0
KeepsLevels x p q = (n : ℕ) → HasLevels x p n → HasLevels x q n

abbrev pub GetsLevel : RecursiveMutex → Pass machine.Mutex → Pass machine.Mutex → Type 0
GetsLevel x p q = (n : ℕ) → HasLevels x p n → (n < 1000) × HasLevels x q (n + 1)

abbrev pub LosesLevel : RecursiveMutex → Pass machine.Mutex → Pass machine.Mutex → Type 0
LosesLevel x p q = (n : ℕ) → HasLevels x p (n + 1) → HasLevels x q n

-- what an attempt to lock came to
abbrev pub TriesLevel : RecursiveMutex → Pass machine.Mutex → Pass machine.Mutex → Tried Level → Type 0
TriesLevel x p q (tries.Got l n) = IsLevelOf x q l × GetsLevel x p q × RecursiveMakes x p q (change p.number ops.TryLock (pos 0) (pos 0) replies.True) n
TriesLevel x p q (tries.Not k) = KeepsLevels x p q × RecursiveLooks x p q (look_of p.number ops.TryLock (pos 0) (pos 0) replies.False k)
