-- A thread's list as a path: what the thread has seen of each object goes on with each of its items.
use Rattle.std.specs.Prelude.{◌≡◌, ℕ, ◌<◌, ◌≤◌, ◌==◌, Bool, true, false, IsTrue, List, [], ◌∷◌, ◌++◌, length, slice_get, Some, if◌then◌else◌, option_and_then}
use mathlib.Core.List.{IsPrefix}
use Rattle.cx_names.specs.declared.ObjectNo.{ObjectNo}
use Rattle.cx_machine.specs.declared.kind.Entry.{Entry}
use Rattle.cx_machine.specs.declared.kind.Look.{Look}
use Rattle.cx_machine.specs.Machine.{after}
use Rattle.cx_scene.specs.Scene.{Scene, kind_of}
use Rattle.cx_items.specs.declared.item.Control.{Control}
use Rattle.cx_items.specs.declared.item.Control.TheVariants as controls
use Rattle.cx_items.specs.declared.item.Item.{Item}
use Rattle.cx_items.specs.declared.item.Item.TheVariants as items
use Rattle.cx_history.specs.Legal.{shows_to}
use Rattle.cx_history.specs.IsRecord.{is_item}
use Rattle.cx_fronts.specs.Positions.{positions}

-- what a thread has seen of the history of each object, by the object's number
abbrev pub Fronts : Type 0
Fronts = ℕ → List Entry

-- before anything was seen
abbrev pub nothing : Fronts
nothing o = []

-- each front of the second begins with that of the first
abbrev pub Grows : Fronts → Fronts → Type 0
Grows f g = (o : ℕ) → IsPrefix (f o) (g o)

-- fronts with another one for an object
abbrev pub put : Fronts → ℕ → List Entry → Fronts
put f q F o = if q == o then F else f o

-- ---- own positions

-- the position of an item's change on an object
abbrev pub position_on : ℕ → Item → List ℕ
position_on o (items.Change q p e) = if q.0 == o then p ∷ [] else []
position_on o _ = []

-- those of a list's changes
abbrev pub own_in : ℕ → List Item → List ℕ
own_in o [] = []
own_in o (x ∷ xs) = position_on o x ++ own_in o xs

-- no change on any object
abbrev pub none_own : ℕ → List ℕ
none_own o = []

-- t's fronts grow, and the changes that they show of t become more by these
pub record Moved (t : ℕ) (f g : Fronts) (own : ℕ → List ℕ) : Type 0 where
  pub grows : Grows f g
  pub mine : (o : ℕ) → positions t 0 (g o) ≡ positions t 0 (f o) ++ own o

-- ---- one item

-- a change stands in the front after it, behind all that was seen before
pub record ChangeSeen (f g : Fronts) (q p : ℕ) (e : Entry) : Type 0 where
  pub from : length (f q) ≤ p
  pub there : slice_get (g q) p ≡ Some e

-- the state of an object after as many changes of this front as the stamp says shows the look
abbrev pub shown_in : Scene → List Entry → ObjectNo → Look → Bool
shown_in s front q l = shows_to (option_and_then (λ d. after (kind_of d) front l.at) (slice_get s.objects q.0)) l

-- a look is by its thread, and shown by the front after it at a stamp not behind what was seen before
pub record LookSeen (s : Scene) (t : ℕ) (f g : Fronts) (q : ObjectNo) (l : Look) : Type 0 where
  pub own : l.by.0 ≡ t
  pub from : length (f q.0) ≤ l.at
  pub to : l.at ≤ length (g q.0)
  pub shows : IsTrue (shown_in s (g q.0) q l)

-- with what each thread begins (first) and ends (last): a thread that is started begins with what its starter has seen, and a
-- join takes in what the joined thread has seen at its end
abbrev pub Handed : (ℕ → Fronts) → (ℕ → Fronts) → Fronts → Fronts → Control → Type 0
Handed first last f g (controls.Start u true) = Grows f (first u.0)
Handed first last f g (controls.Start u false) = Unit {0}
Handed first last f g (controls.Launch u true) = Grows f (first u.0)
Handed first last f g (controls.Launch u false) = Unit {0}
Handed first last f g (controls.Join u) = Grows (last u.0) g

abbrev pub Seen : Scene → (ℕ → Fronts) → (ℕ → Fronts) → ℕ → Fronts → Fronts → Item → Type 0
Seen s first last t f g (items.Change q p e) = ChangeSeen f g q.0 p e
Seen s first last t f g (items.Look q l) = LookSeen s t f g q l
Seen s first last t f g (items.Control c) = Handed first last f g c
Seen s first last t f g (items.Said r) = Unit {0}

-- thread t makes this item, and its fronts go from f to g
pub record Goes (s : Scene) (first last : ℕ → Fronts) (t : ℕ) (f g : Fronts) (x : Item) : Type 0 where
  pub moved : Moved t f g (λ o. position_on o x)
  pub seen : Seen s first last t f g x

-- ---- a list

-- thread t makes these items, and its fronts go from f to h
abbrev pub Path : Scene → (ℕ → Fronts) → (ℕ → Fronts) → ℕ → Fronts → List Item → Fronts → Type 0
Path s first last t f [] h = Moved t f h none_own
Path s first last t f (x ∷ xs) h = (g : Fronts) × Goes s first last t f g x × Path s first last t g xs h

-- each item may stand in a list of t
abbrev pub AreItems : Scene → ℕ → List Item → Type 0
AreItems s t xs = (i : ℕ) (x : Item) → slice_get xs i ≡ Some x → IsTrue (is_item s t x)
