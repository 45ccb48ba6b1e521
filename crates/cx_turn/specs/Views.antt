-- What a seat knows, and how each kind of step alters it.
use Rattle.std.specs.Prelude.{◌≡◌, ◌⊎◌, ℕ, ◌+◌, ◌-◌, ◌^◌, ◌<◌, ◌≤◌, List, [], ◌∷◌, ◌++◌, length, take, Option, Some, None, true, false, IsTrue, nat_eq, nat_le, if◌then◌else◌}
use mathlib.Core.List.{IsPrefix}
use Rattle.cx_machine.specs.declared.kind.Entry.{Entry}
use Rattle.cx_machine.specs.declared.kind.Look.{Look}
use Rattle.cx_machine.specs.declared.machine.Meaning.{Ghosts}
use Rattle.cx_machine.specs.Words.{has, without}
use Rattle.cx_machine.specs.Meaning.{run, bit, times}
use Rattle.cx_turn.specs.declared.view.View.{View}
use Rattle.cx_turn.specs.declared.view.Gone.{Gone}
use Rattle.cx_turn.specs.Positions.{positions}

abbrev pub Each : {A : Type 0} → (A → Type 0) → List A → Type 0
Each P [] = Unit {0}
Each P (x ∷ xs) = P x × Each P xs

-- what a change lowers the number of changes left by: nothing where it lowers the debt by one, else one, and as much as it raises the debt
abbrev pub cost_of : ℕ → ℕ → ℕ
cost_of debt debt' = if nat_eq (debt' + 1) debt then 0 else 1 + (debt' - debt)

-- the IDs, once one is taken back, and once one is given
abbrev pub less : List ℕ → Option ℕ → List ℕ
less ids None = ids
less ids (Some id) = without ids id

abbrev pub more : List ℕ → Option ℕ → List ℕ
more ids None = ids
more ids (Some id) = ids ++ id ∷ []

-- the ID, if there is one, is among these
abbrev pub Has : List ℕ → Option ℕ → Type 0
Has ids None = Unit {0}
Has ids (Some id) = IsTrue (has ids id)

-- an ID as a list
abbrev pub only : Option ℕ → List ℕ
only None = []
only (Some id) = id ∷ []

-- a pass of this number is among those taken in
abbrev pub IsIn : ℕ → List Gone → Type 0
IsIn n [] = ⊥
IsIn n (g ∷ gs) = (g.number ≡ n) ⊎ IsIn n gs

-- the longer of two lists
abbrev pub longer : {A : Type 0} → List A → List A → List A
longer xs ys = if nat_le (length xs) (length ys) then ys else xs

abbrev pub gone_of : ℕ → List ℕ → Gone
gone_of n ps = record { number = n; mine = ps }

module _ {M : Type 0} where
  -- the first pass, before any change
  abbrev pub opening_view : M → ℕ → ℕ → ℕ → View M
  opening_view m seats calls share = record { live = true; counts = true; inside = false; number = 0; seats = seats; start = m; front = []; mine = []; looks = []; left = calls; share = share; splits = 0; taken = []; holds = []; met = [] }

  -- what is left of a seat that another took in
  abbrev pub spent_view : M → View M
  spent_view m = record (opening_view m 0 0 0) { live = false; counts = false }

  abbrev pub entered : View M → List Entry → View M
  entered v front = record v { inside = true; front = front }

  abbrev pub outside : View M → View M
  outside v = record v { inside = false }

  -- after the change from one state to the other
  abbrev pub with_change : Ghosts M → View M → Entry → M → M → View M
  with_change K v e now after = record v { front = v.front ++ e ∷ []; mine = v.mine ++ length v.front ∷ []; left = v.left - cost_of (K.debt now) (K.debt after); share = (v.share + K.pool after) - K.pool now; holds = more (less v.holds (K.takes now e)) (K.gives now e) }

  abbrev pub with_look : View M → Look → View M
  with_look v l = record v { looks = v.looks ++ l ∷ [] }

  -- the first pass, and the new one, after a split
  abbrev pub split_left : View M → ℕ → View M
  split_left v calls = record v { left = v.left - calls; splits = v.splits + 1 }

  abbrev pub split_right : View M → ℕ → View M
  split_right v calls = record (opening_view v.start v.seats calls 0) { number = v.splits + 1; front = v.front }

  -- the pass or note, and the new note, after a note was split off
  abbrev pub note_left : View M → ℕ → ℕ → Option ℕ → View M
  note_left v calls share id = record v { left = v.left - calls; share = v.share - share; holds = less v.holds id }

  abbrev pub note_right : View M → ℕ → ℕ → Option ℕ → View M
  note_right v calls share id = record (opening_view v.start v.seats calls share) { counts = false; front = v.front; holds = only id }

  -- what v has taken in, once it takes in w too
  abbrev pub taken_in : View M → View M → List Gone
  taken_in v w = if w.counts then v.taken ++ (w.taken ++ gone_of w.number w.mine ∷ []) else v.taken

  -- v, once it has taken in w
  abbrev pub both_of : View M → View M → View M
  both_of v w = record v { front = longer v.front w.front; left = v.left + w.left; share = v.share + w.share; taken = taken_in v w; holds = v.holds ++ w.holds; met = v.front ∷ w.front ∷ [] }

module _ {M : Type 0} where
  -- a seat that gave n of its share away
  abbrev pub less_share : View M → ℕ → View M
  less_share v n = record v { share = v.share - n }

  -- w, once it has seen what v has seen
  abbrev pub having_met : View M → View M → View M
  having_met w v = record w { front = longer w.front v.front; met = w.front ∷ v.front ∷ [] }

  -- w, once v gave it n of its share
  abbrev pub given : View M → View M → ℕ → View M
  given w v n = record (having_met w v) { share = w.share + n }

module _ {M : Type 0} (K : Ghosts M) where
  -- the look is this number's, and the state after its stamp's changes shows it
  pub record IsShown (start : M) (number : ℕ) (front : List Entry) (l : Look) : Type 0 where
    pub own : l.by.0 ≡ number
    pub within : l.at ≤ length front
    pub shown : (m : M) × (run K.step (Some start) (take l.at front) ≡ Some m) × IsTrue (K.shows m l)

  -- the history is log now, which leads to now, and the seat's part of what is shared out fits
  pub record IsNow (v : View M) (log : List Entry) (now : M) : Type 0 where
    pub leads : run K.step (Some v.start) log ≡ Some now
    pub bounded : v.left + length log + K.debt now < 2 ^ 28
    pub share : v.share ≤ K.pool now
    pub pool : K.pool now < 2 ^ 32
    pub held : (id : ℕ) → times id v.holds ≤ bit (K.lives now id)

  -- the present history begins with what the seat has seen
  abbrev pub HasPresent : View M → Type 0
  HasPresent v = (log : List Entry) × (now : M) × IsPrefix v.front log × IsNow v log now

  -- what is so of each seat's view: its front is legal, begins with those it brought together, and has its own positions and looks, and the positions of the passes it took in
  pub record IsKnown (v : View M) : Type 0 where
    pub legal : (m : M) × (run K.step (Some v.start) v.front ≡ Some m)
    pub own : v.counts ≡ true → positions v.number 0 v.front ≡ v.mine
    pub looks : Each (IsShown v.start v.number v.front) v.looks
    pub met : Each (λ f. IsPrefix f v.front) v.met
    pub gone : v.counts ≡ true → Each (λ g. positions g.number 0 v.front ≡ g.mine) v.taken
    pub above : v.counts ≡ true → v.number ≡ 0 → (n : ℕ) → v.splits < n → positions n 0 v.front ≡ []
    pub seated : (n : ℕ) → v.seats ≤ n → positions n 0 v.front ≡ []
    pub below : v.counts ≡ true → v.number < v.seats
    pub few : v.counts ≡ true → v.number ≡ 0 → v.splits < v.seats
    pub present : HasPresent v
