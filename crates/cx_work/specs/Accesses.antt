-- What a clause says of a thread's accesses to the objects.
use Rattle.std.specs.Prelude.{◌≡◌, ◌⊎◌, ◌≤◌, ℕ, List, [], map, length, slice_get, Some, None}
use Rattle.cx_machine.specs.declared.kind.Entry.{Entry}
use Rattle.cx_machine.specs.Machine.{State, opening}
use Rattle.cx_turn.specs.declared.view.View.{View}
use Rattle.cx_turn.specs.Acts.{Makes, Looks}
use Rattle.cx_scene.specs.declared.declared.Object.{Object}
use Rattle.cx_scene.specs.Scene.{kind_of}
use Rattle.cx_items.specs.declared.item.Item.{Item}
use Rattle.cx_items.specs.declared.item.Item.TheVariants as items
use Rattle.cx_items.specs.Memory.{nothing}
use Rattle.cx_fronts.specs.Positions.{positions}
use Rattle.cx_fronts.specs.Paths.{Fronts}
use Rattle.cx_kinds.specs.declared.access.Access.{Access}
use Rattle.cx_kinds.specs.Accesses.{RunObject, object_of, opens, IsOf, Knows, kept_of}
use Rattle.cx_kinds.specs.AnyKind.{any_kind}

-- ---- objects

-- the object is one of this declaration, and opens so
pub record IsMadeAs (d : Object) (x : RunObject) : Type 0 where
  pub opens_so : opens x ≡ opening (kind_of d)
  pub is_of : IsOf d x

-- the objects are those of the declarations, by their numbers
pub record AreMadeAs (ds : List Object) (xs : List RunObject) : Type 0 where
  pub count : length xs ≡ length ds
  pub each : (o : ℕ) (d : Object) (x : RunObject) → slice_get ds o ≡ Some d → slice_get xs o ≡ Some x → IsMadeAs d x

-- the objects of these accesses
abbrev pub objects_of : List Access → List RunObject
objects_of ks = map object_of ks

-- ---- accesses

-- the access is thread t's to this object
pub record IsAccess (x : RunObject) (t : ℕ) (k : Access) : Type 0 where
  pub object : object_of k ≡ x
  pub view : View State
  pub seen : Knows k view
  pub thread : view.number ≡ t

-- the accesses are thread t's to these objects
pub record AreAccesses (xs : List RunObject) (t : ℕ) (ks : List Access) : Type 0 where
  pub count : length ks ≡ length xs
  pub each : (o : ℕ) (x : RunObject) (k : Access) → slice_get xs o ≡ Some x → slice_get ks o ≡ Some k → IsAccess x t k

-- nothing is held by any of them whose pass has a change left
abbrev pub HoldNothing : List Access → Type 0
HoldNothing ks = (o : ℕ) (k : Access) → slice_get ks o ≡ Some k → (v : View State) → Knows k v → (kept_of k ≡ nothing) ⊎ (v.left ≡ 0)

-- ---- what they have seen

-- the access shows this history of its object
abbrev pub Shows : Access → List Entry → Type 0
Shows k f = (v : View State) × Knows k v × (v.front ≡ f)

-- these accesses show these fronts, and of no object beyond them is anything seen
pub record AreShown (ks : List Access) (f : Fronts) : Type 0 where
  pub each : (o : ℕ) (k : Access) → slice_get ks o ≡ Some k → Shows k (f o)
  pub none : (o : ℕ) → slice_get ks o ≡ None → f o ≡ []

-- what they have seen was made by the first n threads alone
abbrev pub AreSeated : ℕ → List Access → Type 0
AreSeated n ks = (o : ℕ) (k : Access) → slice_get ks o ≡ Some k → (v : View State) → Knows k v → (t : ℕ) → n ≤ t → positions t 0 v.front ≡ []

-- ---- what an item is to an access

-- the view went on by the change, or the look, of this item alone, which its thread made
abbrev pub GoesBy : Item → View State → View State → Type 0
GoesBy (items.Change q n e) v w = (e.by.0 ≡ v.number) × Makes any_kind v w e n
GoesBy (items.Look q l) v w = (l.by.0 ≡ v.number) × Looks any_kind v w l
GoesBy _ v w = ⊥

-- the access made this item, of the same object
pub record Made (k k' : Access) (x : Item) : Type 0 where
  pub object : object_of k' ≡ object_of k
  pub goes : (v : View State) → Knows k v → (w : View State) × Knows k' w × GoesBy x v w
