-- What a call on several mutexes asks, and what it made of their passes [thread.lock.algorithm].
use Rattle.std.specs.Prelude.{◌≡◌, ℕ, zero, suc, ◌+◌, ◌<◌, ◌≤◌, List, [], ◌∷◌, ◌++◌, map, reverse, length, take, drop, set, slice_get, Option, Some, None, MatchOption, pos, nat_eq, nat_lt, if◌then◌else◌}
use Rattle.cx_names.specs.declared.Reply.TheVariants as replies
use Rattle.cx_machine.specs.declared.kind.Op.TheVariants as ops
use Rattle.cx_machine.specs.Meaning.{change, look_of}
use Rattle.cx_machine.specs.Mutex as machine
use Rattle.cx_turn.specs.declared.pass.Pass.{Pass}
use Rattle.cx_mutex.specs.declared.mutex.Mutex.{Mutex}
use Rattle.cx_mutex.specs.declared.mutex.Hold.{Hold}
use Rattle.cx_mutex.specs.declared.several.Holds.{Holds}
use Rattle.cx_mutex.specs.Mutexes.{IsMutexPass, IsBare, IsHeldBy, IsTaken, MutexMakes, MutexLooks}

-- ---- who is named

-- the hold at this place
abbrev pub hold_at : Holds → ℕ → Option Hold
hold_at h p = if nat_eq p 0 then h.a else if nat_eq p 1 then h.b else if nat_eq p 2 then h.c else if nat_eq p 3 then h.d else None

-- no index stands in the list twice
abbrev pub AreDistinct : List ℕ → Type 0
AreDistinct ns = (p q i : ℕ) → slice_get ns p ≡ Some i → slice_get ns q ≡ Some i → p ≡ q

-- the index stands in the list, at this place or later
abbrev pub IsNamed : List ℕ → ℕ → ℕ → Type 0
IsNamed ns from i = (p : ℕ) × (from ≤ p) × (slice_get ns p ≡ Some i)

-- the indexes in cyclic order, from this place on
abbrev pub turned : ℕ → List ℕ → List ℕ
turned start ns = drop start ns ++ take start ns

-- a mutex with its idle pass, which doesn't own it and may make this many changes
pub record IsReady (calls : ℕ) (x : Mutex) (o : Pass machine.Mutex) : Type 0 where
  pub idle : IsMutexPass x o
  pub bare : IsBare x o
  pub left : calls ≤ o.left

-- each index that is named from this place on has a mutex and a pass that is ready
abbrev pub AreReady : List Mutex → List (Pass machine.Mutex) → List ℕ → ℕ → ℕ → Type 0
AreReady all passes ns from calls = (i : ℕ) → IsNamed ns from i → (x : Mutex) × (o : Pass machine.Mutex) × (slice_get all i ≡ Some x) × (slice_get passes i ≡ Some o) × IsReady calls x o

-- ---- acts

-- one act on the mutex of an index: it was locked, waiting for it; locked by an attempt; found to have an owner; unlocked
pub data Act : Type 0 where
  Locks : ℕ → Act
  Gets : ℕ → Act
  Misses : ℕ → Act
  Unlocks : ℕ → Act

abbrev pub index_of : Act → ℕ
index_of (Locks i) = i
index_of (Gets i) = i
index_of (Misses i) = i
index_of (Unlocks i) = i

-- the pass went on by this act alone. An attempt misses only where another thread owns the mutex
abbrev pub Acted : Mutex → Pass machine.Mutex → Pass machine.Mutex → Act → Type 0
Acted x o n (Locks i) = (at : ℕ) × MutexMakes x o n (change o.number ops.Lock (pos 0) (pos 0) replies.Ok) at
Acted x o n (Gets i) = (at : ℕ) × MutexMakes x o n (change o.number ops.TryLock (pos 0) (pos 0) replies.True) at
Acted x o n (Misses i) = (at : ℕ) × MutexLooks x o n (look_of o.number ops.TryLock (pos 0) (pos 0) replies.False at) × IsTaken x n
Acted x o n (Unlocks i) = (at : ℕ) × MutexMakes x o n (change o.number ops.Unlock (pos 0) (pos 0) replies.Ok) at

-- by the act one pass alone changed, that of its mutex
pub record Step (all : List Mutex) (old new : List (Pass machine.Mutex)) (act : Act) : Type 0 where
  pub mutex : Mutex
  pub before : Pass machine.Mutex
  pub after : Pass machine.Mutex
  pub is_mutex : slice_get all (index_of act) ≡ Some mutex
  pub is_before : slice_get old (index_of act) ≡ Some before
  pub acted : Acted mutex before after act
  pub changed : new ≡ set old (index_of act) after

-- the passes went on by these acts, in this order, and by no others
abbrev pub Went : List Mutex → List (Pass machine.Mutex) → List (Pass machine.Mutex) → List Act → Type 0
Went all old new [] = new ≡ old
Went all old new (act ∷ acts) = (mid : List (Pass machine.Mutex)) × Step all old mid act × Went all mid new acts

-- ---- the algorithms

-- the first is locked, and the others by attempts, in this order
abbrev pub locking_acts : List ℕ → List Act
locking_acts [] = []
locking_acts (i ∷ is) = Locks i ∷ map Gets is

-- the mutexes that were locked in this order are unlocked, the last first
abbrev pub unlocking_acts : List ℕ → List Act
unlocking_acts is = map Unlocks (reverse is)

-- attempts in the order of the list, until that on the one at this place misses
abbrev pub missing_acts : List ℕ → ℕ → ℕ → List Act
missing_acts ns place i = map Gets (take place ns) ++ Misses i ∷ unlocking_acts (take place ns)

-- attempts in the order of the list: the first that has an owner is the one at this place, and those before it were unlocked again
abbrev pub Missed : List Mutex → List (Pass machine.Mutex) → List (Pass machine.Mutex) → List ℕ → ℕ → Type 0
Missed all old new ns place = (i : ℕ) × (slice_get ns place ≡ Some i) × Went all old new (missing_acts ns place i)

-- a round of `lock_all` that begins with the mutex at the place `start` backs off: in cyclic order from there it locks as many as there are before the one at the place `next`, which has an owner, and unlocks them, the last first
pub record BacksOff (which : List ℕ) (start next : ℕ) (acts : List Act) : Type 0 where
  pub held : ℕ
  pub index : ℕ
  pub some : 1 ≤ held
  pub missed : slice_get (turned start which) held ≡ Some index
  pub again : slice_get which next ≡ Some index
  pub acts_are : acts ≡ locking_acts (take held (turned start which)) ++ Misses index ∷ unlocking_acts (take held (turned start which))

-- this many rounds back off, each begins with the mutex that the round before it missed, and the next would begin at the place `next`
abbrev pub Rounds : List ℕ → ℕ → ℕ → List Act → Type 0
Rounds which zero next acts = (next ≡ 0) × (acts ≡ [])
Rounds which (suc n) next acts = (start : ℕ) × (earlier : List Act) × (last : List Act) × Rounds which n start earlier × BacksOff which start next last × (acts ≡ earlier ++ last)

-- this many rounds backed off, and then one locked all
abbrev pub LockedAfter : List Mutex → List (Pass machine.Mutex) → List (Pass machine.Mutex) → List ℕ → ℕ → Type 0
LockedAfter all old new which rounds = (start : ℕ) × (acts : List Act) × (start < length which) × Rounds which rounds start acts × Went all old new (acts ++ locking_acts (turned start which))

-- this many rounds backed off, and no more was done
abbrev pub BackedOff : List Mutex → List (Pass machine.Mutex) → List (Pass machine.Mutex) → List ℕ → ℕ → Type 0
BackedOff all old new which rounds = (next : ℕ) × (acts : List Act) × Rounds which rounds next acts × Went all old new acts

-- ---- how the passes are left

-- the passes that aren't named are as they were
abbrev pub OthersKept : List (Pass machine.Mutex) → List (Pass machine.Mutex) → List ℕ → ℕ → Type 0
OthersKept old new ns from = (k : ℕ) → (IsNamed ns from k → ⊥) → slice_get new k ≡ slice_get old k

-- each mutex is owned by its pass, and its hold stands at its place
abbrev pub AreHeld : List Mutex → List (Pass machine.Mutex) → List ℕ → Holds → Type 0
AreHeld all passes which holds = (p i : ℕ) → slice_get which p ≡ Some i → (x : Mutex) × (n : Pass machine.Mutex) × (slice_get all i ≡ Some x) × (slice_get passes i ≡ Some n) × IsMutexPass x n × MatchOption (hold_at holds p) ⊥ (λ h. IsHeldBy x n h)

-- no mutex is owned by its pass
abbrev pub AreFree : List Mutex → List (Pass machine.Mutex) → List ℕ → Type 0
AreFree all passes which = AreReady all passes which 0 0

-- at the places past the list there are no holds
abbrev pub NoneBeyond : List ℕ → Holds → Type 0
NoneBeyond which holds = (p : ℕ) → length which ≤ p → hold_at holds p ≡ None

-- each pass may make so many changes less, by the place at which it is named
abbrev pub HaveLess : List (Pass machine.Mutex) → List (Pass machine.Mutex) → List ℕ → (ℕ → ℕ) → Type 0
HaveLess old new which less = (p i : ℕ) (o n : Pass machine.Mutex) → slice_get which p ≡ Some i → slice_get old i ≡ Some o → slice_get new i ≡ Some n → n.left + less p ≡ o.left

-- two where it was locked and unlocked
abbrev pub two_before : ℕ → ℕ → ℕ
two_before place p = if nat_lt p place then 2 else 0
