-- The rule of a turn, and what each step tells.
-- Word 0 is twice the length of the history, and 1 more while the turn is taken. Slot 0 holds the state while the turn is free.
-- Each later word is the wake word of a seat.
use Rattle.std.specs.Prelude.{◌≡◌, ℕ, ◌+◌, ◌*◌, ◌^◌, ◌%◌, ◌<◌, ◌≤◌, List, [], ◌∷◌, length, slice_index, Option, Some, None, true}
use mathlib.Core.Option.{some}
use mathlib.Core.List.{IsPrefix}
use lib.ListN.{get_elem?}
use Rattle.atomic_table.specs.Table.{State, Me, Step}
use Rattle.atomic_table.specs.declared.shared.Seat.{Seat}
use Rattle.cx_machine.specs.declared.kind.Entry.{Entry}
use Rattle.cx_machine.specs.declared.kind.Look.{Look}
use Rattle.cx_machine.specs.declared.machine.Meaning.{Ghosts}
use Rattle.cx_machine.specs.Meaning.{run, bit, times}
use Rattle.cx_turn.specs.declared.view.Desk.{Desk}
use Rattle.cx_turn.specs.declared.view.Desk.TheVariants.{Home, Away}
use Rattle.cx_turn.specs.declared.view.View.{View}
use Rattle.cx_turn.specs.declared.view.Gone.{Gone}
use Rattle.cx_turn.specs.Positions.{positions}
use Rattle.cx_turn.specs.Views.{Each, IsShown, IsNow, IsKnown, entered, outside, with_change, with_look}

abbrev pub total : {A : Type 0} → (A → ℕ) → List A → ℕ
total f [] = 0
total f (x ∷ xs) = f x + total f xs

-- a pass that was taken in makes no change any more
pub record IsGone (log front : List Entry) (owner : ℕ → Option ℕ) (splits : ℕ) (g : Gone) : Type 0 where
  pub whole : positions g.number 0 log ≡ g.mine
  pub shown : positions g.number 0 front ≡ g.mine
  pub nobody : owner g.number ≡ None
  pub below : g.number ≤ splits

-- the pass j knows a beginning of the log, in which its own changes stand, and no others of it
pub record Knows {M : Type 0} (log : List Entry) (taken holder : ℕ) (owner : ℕ → Option ℕ) (splits : ℕ) (j : ℕ) (v : View M) : Type 0 where
  pub own : positions v.number 0 log ≡ v.mine
  pub seen : positions v.number 0 v.front ≡ v.mine
  pub owned : owner v.number ≡ Some j
  pub numbered : v.number ≤ splits
  pub first : v.number ≡ 0 → v.splits ≡ splits
  pub gone : Each (IsGone log v.front owner splits) v.taken
  pub held : v.inside ≡ true → (j ≡ holder) × (v.front ≡ log) × (taken ≡ 1)

-- the seat has seen a beginning of the log, which shows its looks
pub record Sees {M : Type 0} (K : Ghosts M) (start : M) (seats : ℕ) (log : List Entry) (v : View M) : Type 0 where
  pub started : v.start ≡ start
  pub seated : v.seats ≡ seats
  pub begins : IsPrefix v.front log
  pub looks : Each (IsShown K v.start v.number v.front) v.looks
  pub met : Each (λ f. IsPrefix f v.front) v.met

-- There is one history. Its length is in the word, and the state in the slot is what it leads to
pub record Turns {S M : Type 0} (meaning : S → M) (fits : S → Type 0) (K : Ghosts M) (start : M) (seats : ℕ) (s : State (Desk S) (View M)) : Type 0 where
  pub log : List Entry
  pub taken : ℕ
  pub holder : ℕ
  pub owner : ℕ → Option ℕ
  pub splits : ℕ
  pub now : M
  pub wide : 0 < length s.words
  pub deep : length s.homes ≡ 1
  pub wakes : (i : ℕ) → 0 < i → i < length s.words → slice_index s.words i < 2
  pub leads : run K.step (Some start) log ≡ Some now
  pub binary : taken < 2
  pub word : slice_index s.words 0 ≡ 2 * length log + taken
  pub free : taken ≡ 0 → (x : S) × (get_elem? s.homes 0 ≡ some (some (Home x))) × (meaning x ≡ now) × fits x
  pub held_by : taken ≡ 1 → (v : View M) × (get_elem? s.views holder ≡ some v) × (v.live ≡ true) × (v.counts ≡ true) × (v.inside ≡ true)
  pub bounded : total (λ v. v.left) s.views + length log + K.debt now < 2 ^ 28
  pub shares : total (λ v. v.share) s.views ≤ K.pool now
  pub pool : K.pool now < 2 ^ 32
  pub ids : (id : ℕ) → total (λ v. times id v.holds) s.views ≤ bit (K.lives now id)
  pub unused : (n : ℕ) → splits < n → positions n 0 log ≡ []
  pub few : splits < seats
  pub each_seat : (j : ℕ) (v : View M) → get_elem? s.views j ≡ some v → v.live ≡ true → Sees K start seats log v
  pub each_pass : (j : ℕ) (v : View M) → get_elem? s.views j ≡ some v → v.live ≡ true → v.counts ≡ true → Knows log taken holder owner splits j v

abbrev Sat : Type 0 → Type 0 → Type 0
Sat S M = Me (Desk S) (View M)

module _ {S M : Type 0} where
  -- the seat has taken the turn, and the state is in the taker's hand
  abbrev pub IsOut : Seat (Desk S) (View M) → Type 0
  IsOut p = (p.me.1 ≡ (0, Away) ∷ []) × (p.me.0.live ≡ true) × (p.me.0.counts ≡ true) × (p.me.0.inside ≡ true)

  -- the turn was free, and the seat has the state, to which the whole history leads
  abbrev pub took : (S → M) → (S → Type 0) → Ghosts M → Step (Desk S) → Sat S M → ℕ → Sat S M → Type 0
  took meaning fits K st m n m' =
      (n % 2 ≡ 1 → m' ≡ m)
      × (n % 2 ≡ 0 → (x : S) × (front : List Entry) × (m' ≡ (entered m.0 front, (0, Home x) ∷ m.1)) × IsPrefix m.0.front front × (n ≡ 2 * length front) × fits x
      × IsKnown K m'.0 × IsNow K m'.0 front (meaning x))

  -- the change is made, from the state that the history led to
  abbrev pub changed : Ghosts M → Entry → Step (Desk S) → Sat S M → ℕ → Sat S M → Type 0
  changed K e st m n m' = (now after : M) → run K.step (Some m.0.start) m.0.front ≡ Some now → K.step now e ≡ Some after
      → (n ≡ 2 * length m.0.front + 1) × (m' ≡ (with_change K m.0 e now after, m.1)) × IsKnown K m'.0 × IsNow K m'.0 m'.0.front after

  -- the change is made in the same way, and the turn is free again
  abbrev pub changed_last : Ghosts M → Entry → Step (Desk S) → Sat S M → ℕ → Sat S M → Type 0
  changed_last K e st m n m' = (now after : M) → run K.step (Some m.0.start) m.0.front ≡ Some now → K.step now e ≡ Some after
      → (n ≡ 2 * length m.0.front + 1) × (m' ≡ (outside (with_change K m.0 e now after), [])) × IsKnown K m'.0 × IsNow K m'.0 m'.0.front after

  -- the look is made
  abbrev pub looked : Ghosts M → Look → Step (Desk S) → Sat S M → ℕ → Sat S M → Type 0
  looked K l st m n m' = (n ≡ 2 * length m.0.front + 1) × (m' ≡ (with_look m.0 l, m.1)) × IsKnown K m'.0

  -- the turn is free again
  abbrev pub left : Step (Desk S) → Sat S M → ℕ → Sat S M → Type 0
  left st m n m' = m' ≡ (outside m.0, [])

  -- a wake word is set or taken, and the seat is as before
  abbrev pub signalled : Step (Desk S) → Sat S M → ℕ → Sat S M → Type 0
  signalled st m n m' = m' ≡ m

  -- nothing changes, and the seat's view is known
  abbrev pub learned : Ghosts M → Step (Desk S) → Sat S M → ℕ → Sat S M → Type 0
  learned K st m n m' = (m' ≡ m) × IsKnown K m'.0
