-- What a token holds of its object, in the words of what a thread remembers, and what it owes.
use Rattle.std.specs.Prelude.{ℕ, ◌+◌, Bool, true, false, Option, Some, None}
use Rattle.cx_machine.specs.Machine as all
use Rattle.cx_machine.specs.Meaning.{bit}
use Rattle.cx_machine.specs.Words.{is_thread}
use Rattle.cx_mutex.specs.declared.mutex.Hold.{Hold}
use Rattle.cx_items.specs.declared.kept.Kept.{Kept}
use Rattle.cx_kinds.specs.declared.shared_mutex.Owned.{Owned}
use Rattle.cx_kinds.specs.declared.shared_mutex.Owned.TheVariants as owns
use Rattle.cx_items.specs.Memory.{nothing}

-- what of it a token determines: how often it owns a mutex, whether it shares it, how many sources of a stop state it has
abbrev pub in_hand : Kept → Kept
in_hand k = record nothing { levels = k.levels; reads = k.reads; sources = k.sources }

-- how many changes give all of it back
abbrev pub changes_back : Kept → ℕ
changes_back k = k.levels + bit k.reads + k.sources

-- a mutex owned so often
abbrev pub levelled : ℕ → Kept
levelled n = record nothing { levels = n }

-- a plain mutex, with this hold
abbrev pub kept_by : Option Hold → Kept
kept_by None = nothing
kept_by (Some h) = levelled 1

-- a shared mutex, not owned at all
abbrev pub owns_nothing : Owned → Bool
owns_nothing owns.Nothing = true
owns_nothing _ = false

-- a shared mutex, owned so
abbrev pub kept_shared : Owned → Kept
kept_shared owns.Nothing = nothing
kept_shared (owns.Alone h) = levelled 1
kept_shared (owns.Along h) = record nothing { reads = true }

-- a completion by thread n is due in this state
abbrev pub owes_completion : ℕ → Option all.State → Bool
owes_completion n (Some (all.Barrier b)) = is_thread b.completing n
owes_completion n _ = false
