-- What fits a state and the queue beside it.
use Rattle.std.specs.Prelude.{◌≡◌, ◌⊎◌, ℕ, ◌<◌, ◌≤◌, ◌+◌, ◌==◌, not, List, [], filter, length, slice_get, Some, false, true}
use Rattle.cx_names.specs.declared.ThreadNo.{ThreadNo}
use Rattle.cx_machine.specs.declared.kind.Entry.{Entry}
use Rattle.cx_machine.specs.declared.machine.Meaning.{Ghosts}
use Rattle.cx_machine.specs.Meaning.{run, AreBelow}
use Rattle.cx_cell.specs.declared.wish.Waiter.{Waiter}
use Rattle.cx_cell.specs.declared.queued.Queued.{Queued}
use Rattle.cx_cell.specs.declared.called.Called.{Called}
use Rattle.cx_cell.specs.Callers.{is_called}
use Rattle.cx_cell.specs.Acts.{Denies}

-- the caller is in the queue
abbrev pub StandsIn : List Waiter → Waiter → Type 0
StandsIn ws w = (k : ℕ) × (k < length ws) × (slice_get ws k ≡ Some w)

-- the queue without the caller of this number
abbrev pub without : List Waiter → ThreadNo → List Waiter
without ws seat = filter (λ (w : Waiter). not (w.seat.0 == seat.0)) ws

-- all callers but that of this number stand in the queue as before
abbrev pub KeepsOthers : ThreadNo → List Waiter → List Waiter → Type 0
KeepsOthers seat ws ws' = (w : Waiter) → StandsIn ws w → (w.seat ≡ seat → ⊥) → StandsIn ws' w

-- who is to be woken now is who was before, and who is due
pub record Calls (IsDue : ℕ → Type 0) (before now : Called) : Type 0 where
  pub only : (n : ℕ) → n < 256 → is_called now n ≡ true → (is_called before n ≡ true) ⊎ IsDue n
  pub due : (n : ℕ) → n < 256 → IsDue n → is_called now n ≡ true
  pub kept : (n : ℕ) → n < 256 → is_called before n ≡ true → is_called now n ≡ true

module _ {M : Type 0} (K : Ghosts M) where
  -- the state denies what the caller waits for, or the caller is marked as woken
  abbrev pub IsMarked : M → Waiter → Type 0
  IsMarked m w = w.woken ≡ false → Denies K w.seat w.wish m

  abbrev pub AreMarked : M → List Waiter → Type 0
  AreMarked m ws = (k : ℕ) → k < length ws → (w : Waiter) → slice_get ws k ≡ Some w → IsMarked m w

  -- the caller has this number, sleeps unmarked, and the state allows what it waits for
  abbrev pub IsDue : M → Waiter → ℕ → Type 0
  IsDue m w n = (w.seat.0 ≡ n) × (w.woken ≡ false) × (Denies K w.seat w.wish m → ⊥)

  -- such a caller is in the queue
  abbrev pub HasDue : M → List Waiter → ℕ → Type 0
  HasDue m ws n = (k : ℕ) × (w : Waiter) × (slice_get ws k ≡ Some w) × IsDue m w n

  -- a caller after the marking: it is marked where it was, or where the state allows what it waits for
  pub record Marks (m : M) (w w' : Waiter) : Type 0 where
    pub seat : w'.seat ≡ w.seat
    pub wish : w'.wish ≡ w.wish
    pub kept : w.woken ≡ true → w'.woken ≡ true
    pub due : w'.woken ≡ true → (w.woken ≡ true) ⊎ (Denies K w.seat w.wish m → ⊥)
    pub rest : IsMarked m w'

  -- the queue after the marking: each caller stands where it stood
  pub record MarksAll (m : M) (ws ws' : List Waiter) : Type 0 where
    pub long : length ws' ≡ length ws
    pub each : (k : ℕ) (w w' : Waiter) → slice_get ws k ≡ Some w → slice_get ws' k ≡ Some w' → Marks m w w'

  -- callers below 256 led to this state from one without members, and there is room for as many members as such callers can bring in
  pub record HasRoom (m : M) (spare : ℕ) : Type 0 where
    pub first : M
    pub history : List Entry
    pub bare : K.members first ≡ []
    pub below : AreBelow 256 history
    pub leads : run K.step (Some first) history ≡ Some m
    pub room : K.most first 256 ≤ length (K.members m) + spare

-- what the state in the queue's care means
abbrev pub inner : {S M : Type 0} → (S → M) → Queued S → M
inner meaning q = meaning q.kept.value.state
