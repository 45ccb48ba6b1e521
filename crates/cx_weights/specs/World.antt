-- How much all threads of a scenario may still do.
use Rattle.std.specs.Prelude.{◌≡◌, ℕ, ◌+◌, ◌*◌, Bool, true, false, List, [], ◌∷◌, map, length, slice_get, slice_set, Option, Some, None}
use Rattle.cx_names.specs.declared.ObjectNo.{ObjectNo}
use Rattle.cx_names.specs.declared.Reply.{Reply}
use Rattle.cx_machine.specs.declared.kind.Entry.{Entry}
use Rattle.cx_machine.specs.declared.kind.Look.{Look}
use Rattle.cx_machine.specs.Machine.{State, opening as opening_state, step, shows, Once as AOnce, Stop as AStop}
use Rattle.cx_machine.specs.Once.{Once, Idle, Active, Done}
use Rattle.cx_machine.specs.Stop.{is_requested}
use Rattle.cx_scene.specs.declared.declared.Object.{Object}
use Rattle.cx_scene.specs.declared.declared.Thread.{Thread}
use Rattle.cx_scene.specs.Scene.{Scene, kind_of}
use Rattle.cx_items.specs.declared.item.Control.{Control}
use Rattle.cx_items.specs.declared.item.Item.{Item}
use Rattle.cx_items.specs.declared.item.Item.TheVariants as items
use Rattle.cx_items.specs.Next.{Local, moved, local_at_start}
use Rattle.cx_weights.specs.Weights.{weight, IsSized}

-- ---- objects

abbrev pub once_reserve : Once → ℕ
once_reserve Idle = 4
once_reserve (Active t) = 0
once_reserve Done = 0

-- what is paid for the beginnings that an object still has before it
abbrev pub reserve : State → ℕ
reserve (AStop s) = 4 * length s.registered
reserve (AOnce o) = once_reserve o
reserve _ = 0

abbrev pub is_asked : State → Bool
is_asked (AStop s) = is_requested s
is_asked _ = false

abbrev pub asked_of : Option State → Bool
asked_of None = false
asked_of (Some x) = is_asked x

-- the stop of object o is requested
abbrev pub asked_in : List State → ℕ → Bool
asked_in states o = asked_of (slice_get states o)

abbrev pub reserves : List State → ℕ
reserves [] = 0
reserves (x ∷ xs) = reserve x + reserves xs

-- what an item leaves of the objects' states: a change that is enabled, a look at what is shown, or something else
pub data Moves (states : List State) : Item → List State → Type 0 where
  changed : (o : ObjectNo) (p : ℕ) (e : Entry) (x next : State) → slice_get states o.0 ≡ Some x → step x e ≡ Some next → Moves states (items.Change o p e) (slice_set states o.0 next)
  looked : (o : ObjectNo) (l : Look) (x : State) → slice_get states o.0 ≡ Some x → shows x l ≡ true → Moves states (items.Look o l) states
  controlled : (c : Control) → Moves states (items.Control c) states
  said : (r : Reply) → Moves states (items.Said r) states

-- ---- threads

-- where all threads stand, by their numbers; one that hasn't begun stands at its start
abbrev pub weights : Scene → (ℕ → Bool) → List Local → ℕ
weights s asked [] = 0
weights s asked (l ∷ ls) = weight s asked l + weights s asked ls

-- HOW MUCH ALL THREADS MAY STILL DO
abbrev pub total : Scene → List State → List Local → ℕ
total s states locals = reserves states + weights s (asked_in states) locals

abbrev pub AllSized : List Local → Type 0
AllSized locals = (t : ℕ) (l : Local) → slice_get locals t ≡ Some l → IsSized l

-- ---- the opening

abbrev pub opening_of : Object → State
opening_of d = opening_state (kind_of d)

abbrev pub opening_states : Scene → List State
opening_states s = map opening_of s.objects

abbrev pub starts_from : Scene → ℕ → List Thread → List Local
starts_from s t [] = []
starts_from s t (u ∷ us) = local_at_start s t ∷ starts_from s (t + 1) us

abbrev pub starts : Scene → List Local
starts s = starts_from s 0 s.threads

-- ---- schedules

-- n items, one after the other, each made by some thread where it stands; none is asked whether it was started
pub data Run (s : Scene) : ℕ → List State → List Local → Type 0 where
  opening : Run s 0 (opening_states s) (starts s)
  one_more : (n : ℕ) (states next : List State) (locals : List Local) (completing : Bool) (t : ℕ) (l k : Local) (x : Item) → Run s n states locals → slice_get locals t ≡ Some l → Moves states x next → moved s completing t l x ≡ Some k → Run s (n + 1) next (slice_set locals t k)

-- ---- threads that may not have begun

-- where threads stand, of which the first has number t, by what is kept of each that has begun
abbrev pub places_from : {R : Type 0} → (R → Local) → Scene → ℕ → List (Option R) → List Local
places_from at s t [] = []
places_from at s t (None ∷ rs) = local_at_start s t ∷ places_from at s (t + 1) rs
places_from at s t (Some r ∷ rs) = at r ∷ places_from at s (t + 1) rs

-- the sum of a number of each
abbrev pub sum_of : {T : Type 0} → (T → ℕ) → List T → ℕ
sum_of f [] = 0
sum_of f (x ∷ xs) = f x + sum_of f xs
