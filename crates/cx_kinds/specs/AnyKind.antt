-- The machines of all kinds as one, and how that of one kind stands among them.
use Rattle.std.specs.Prelude.{◌≡◌, ℕ, ◌*◌, Bool, false, List, [], Option, None, option_map}
use Rattle.cx_machine.specs.declared.kind.Entry.{Entry}
use Rattle.cx_machine.specs.declared.kind.Look.{Look}
use Rattle.cx_machine.specs.declared.machine.Meaning.{Ghosts}
use Rattle.cx_machine.specs.Words.{small_of}
use Rattle.cx_machine.specs.Machine as all
use Rattle.cx_machine.specs.Mutex.{opening}
use Rattle.cx_machine.specs.Waiters as waiters
use Rattle.cx_machine.specs.Callbacks as callbacks
use Rattle.cx_turn.specs.declared.view.View.{View}

-- of the notifications of one thread that could be, this one is made
abbrev pub picks : all.State → Entry → Type 0
picks (all.Condition c) e = waiters.Picks c e.op e.reply
picks _ e = Unit {0}

-- the threads and IDs in the state's sets
abbrev pub members : all.State → List ℕ
members (all.Shared s) = s.readers
members (all.Condition c) = waiters.members c
members (all.Stop s) = callbacks.members s
members _ = []

-- how many there may be, where so many threads make changes
abbrev pub most : all.State → ℕ → ℕ
most (all.Shared s) seats = seats
most (all.Condition c) seats = seats
most (all.Stop s) seats = seats * 4096
most _ seats = 0

-- what the shares of the passes are parts of: a latch's counter, the sources of a stop state
abbrev pub pool : all.State → ℕ
pool (all.Latch l) = l.counter
pool (all.Stop s) = s.sources
pool _ = 0

-- the changes to come that are already paid for
abbrev pub debt : all.State → ℕ
debt (all.Stop s) = callbacks.debt s
debt _ = 0

-- the ID that a change hands to its pass, the one that it takes back, and whether an ID may be held
abbrev pub gives : all.State → Entry → Option ℕ
gives (all.Stop s) e = callbacks.given e.op (small_of e.a)
gives _ e = None

abbrev pub takes : all.State → Entry → Option ℕ
takes (all.Stop s) e = callbacks.taken_back e.op (small_of e.a)
takes _ e = None

abbrev pub lives : all.State → ℕ → Bool
lives (all.Stop s) id = callbacks.lives s id
lives _ id = false

abbrev pub any_kind : Ghosts all.State
any_kind = record { step = all.step; shows = all.shows; picks = picks; members = members; most = most; pool = pool; debt = debt; gives = gives; takes = takes; lives = lives; any = all.Mutex (opening false 0) }

-- a machine's states stand among those of all kinds, and are there what they are
pub record IsKindOf {M : Type 0} (K : Ghosts M) (as_any : M → all.State) : Type 0 where
  pub steps : (m : M) (e : Entry) → all.step (as_any m) e ≡ option_map as_any (K.step m e)
  pub shown : (m : M) (l : Look) → all.shows (as_any m) l ≡ K.shows m l
  pub picked : (m : M) (e : Entry) → K.picks m e → picks (as_any m) e
  pub pooled : (m : M) → pool (as_any m) ≡ K.pool m
  pub owed : (m : M) → debt (as_any m) ≡ K.debt m
  pub given : (m : M) (e : Entry) → gives (as_any m) e ≡ K.gives m e
  pub taken : (m : M) (e : Entry) → takes (as_any m) e ≡ K.takes m e
  pub lived : (m : M) (id : ℕ) → lives (as_any m) id ≡ K.lives m id

-- the view, whose first state stands among those of all kinds
abbrev pub erase : {M : Type 0} → (M → all.State) → View M → View all.State
erase f v = record { live = v.live; counts = v.counts; inside = v.inside; number = v.number; seats = v.seats; start = f v.start; front = v.front; mine = v.mine; looks = v.looks; left = v.left; share = v.share; splits = v.splits; taken = v.taken; holds = v.holds; met = v.met }
