-- What the parts of a call on several mutexes made of their passes.
use Rattle.std.specs.Prelude.{◌≡◌, ℕ, ◌+◌, ◌≤◌, List, drop, slice_get, Option, Some, MatchOption}
use Rattle.cx_machine.specs.Mutex as machine
use Rattle.cx_turn.specs.declared.pass.Pass.{Pass}
use Rattle.cx_mutex.specs.declared.mutex.Mutex.{Mutex}
use Rattle.cx_mutex.specs.declared.mutex.Hold.{Hold}
use Rattle.cx_mutex.specs.declared.several.Holds.{Holds}
use Rattle.cx_mutex.specs.Mutexes.{IsMutexPass, IsBare, IsHeldBy}
use Rattle.cx_mutex.specs.Together.{Act, hold_at, turned, IsNamed, BacksOff, Went, locking_acts, missing_acts, two_before}

-- the pass owns the mutex now, by one change
pub record Taken (held : Option Hold) (x : Mutex) (o n : Pass machine.Mutex) : Type 0 where
  pub idle : IsMutexPass x n
  pub holds : MatchOption held ⊥ (λ h. IsHeldBy x n h)
  pub left : n.left + 1 ≡ o.left

-- the pass doesn't own the mutex, after so many changes
pub record Freed (changes : ℕ) (x : Mutex) (o n : Pass machine.Mutex) : Type 0 where
  pub idle : IsMutexPass x n
  pub bare : IsBare x n
  pub left : n.left + changes ≡ o.left

-- those that come so many places after the first, and later, were locked, and their holds stand at their places
abbrev pub TakenFrom : List Mutex → List (Pass machine.Mutex) → List (Pass machine.Mutex) → List ℕ → ℕ → ℕ → Holds → Type 0
TakenFrom all old new which start steps holds = (i : ℕ) (x : Mutex) (o : Pass machine.Mutex) → IsNamed (turned start which) steps i → slice_get all i ≡ Some x → slice_get old i ≡ Some o → (n : Pass machine.Mutex) × (slice_get new i ≡ Some n) × ((p : ℕ) × (slice_get which p ≡ Some i) × Taken (hold_at holds p) x o n)

-- those that are named from this place on are free, and were locked and unlocked where they come before the one that failed
abbrev pub FreedFrom : List Mutex → List (Pass machine.Mutex) → List (Pass machine.Mutex) → List ℕ → ℕ → ℕ → Type 0
FreedFrom all old new ns from failed = (p i : ℕ) (x : Mutex) (o : Pass machine.Mutex) → from ≤ p → slice_get ns p ≡ Some i → slice_get all i ≡ Some x → slice_get old i ≡ Some o → (n : Pass machine.Mutex) × (slice_get new i ≡ Some n) × Freed (two_before failed p) x o n

-- of those that come so many places after the first, and later, the one at this place had an owner
abbrev pub MissedFrom : List Mutex → List (Pass machine.Mutex) → List (Pass machine.Mutex) → List ℕ → ℕ → ℕ → ℕ → Type 0
MissedFrom all old new which start steps place = (j i : ℕ) × (slice_get (drop steps (turned start which)) j ≡ Some i) × (slice_get which place ≡ Some i) × Went all old new (missing_acts (drop steps (turned start which)) j i) × FreedFrom all old new (turned start which) steps (steps + j)

-- the holds at the places of all others are as they were
abbrev pub HoldsKept : List ℕ → ℕ → ℕ → Holds → Holds → Type 0
HoldsKept which start steps old new = (p : ℕ) → ((i : ℕ) → IsNamed (turned start which) steps i → slice_get which p ≡ Some i → ⊥) → hold_at new p ≡ hold_at old p

-- a round that locked all
abbrev pub RoundLocks : List Mutex → List (Pass machine.Mutex) → List (Pass machine.Mutex) → List ℕ → ℕ → Type 0
RoundLocks all old new which start = Went all old new (locking_acts (turned start which))

-- a round that backed off
abbrev pub RoundBacksOff : List Mutex → List (Pass machine.Mutex) → List (Pass machine.Mutex) → List ℕ → ℕ → ℕ → Type 0
RoundBacksOff all old new which start next = (acts : List Act) × BacksOff which start next acts × Went all old new acts

-- after it nothing is held, and no pass made more than two changes
abbrev pub RoundFree : List Mutex → List (Pass machine.Mutex) → List (Pass machine.Mutex) → List ℕ → Type 0
RoundFree all old new which = (i : ℕ) (x : Mutex) (o : Pass machine.Mutex) → IsNamed which 0 i → slice_get all i ≡ Some x → slice_get old i ≡ Some o → (n : Pass machine.Mutex) × (slice_get new i ≡ Some n) × IsMutexPass x n × IsBare x n × (o.left ≤ n.left + 2)
