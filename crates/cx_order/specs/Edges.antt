-- The edges between the points of a record.
use Rattle.std.specs.Prelude.{◌≡◌, ℕ, ◌+◌, ◌⊎◌, ◌<◌, ◌≤◌, ◌==◌, ◌&&◌, ℤ, Bool, true, false, IsTrue, List, length, filter, slice_get, Some, nat_lt}
use Rattle.std.specs.List.{list_any}
use Rattle.cx_names.specs.declared.ThreadNo.{ThreadNo}
use Rattle.cx_machine.specs.declared.kind.Entry.{Entry}
use Rattle.cx_machine.specs.declared.kind.Op.{Op}
use Rattle.cx_machine.specs.declared.kind.Op.TheVariants as ops
use Rattle.cx_machine.specs.Words.{small_of}
use Rattle.cx_scene.specs.declared.declared.Object.{Object}
use Rattle.cx_scene.specs.Scene.{Scene, kind_of}
use Rattle.cx_items.specs.declared.item.Control.TheVariants as controls
use Rattle.cx_items.specs.declared.item.Item.{Item}
use Rattle.cx_items.specs.declared.item.Item.TheVariants as items
use Rattle.cx_history.specs.Histories.{Recorded, Placed, list_of, item_at, changes_of}
use Rattle.cx_history.specs.Follows.{starts}
use Rattle.cx_order.specs.declared.row.Row.{Row}
use Rattle.cx_order.specs.declared.row.Row.TheVariants as rows
use Rattle.cx_order.specs.Points.{Point, point, IsPoint}
use Rattle.cx_order.specs.Table.{given, taken_by_change, taken_by_look}

-- ---- what a barrier's rows ask

-- `complete`
abbrev pub completes : Op → Bool
completes ops.Complete = true
completes _ = false

-- `arrive` or `drop`
abbrev pub arrives : Op → Bool
arrives ops.Arrive = true
arrives ops.Drop = true
arrives _ = false

-- a change of object o at position p has such a word
abbrev pub has_at : Recorded → ℕ → (Op → Bool) → ℕ → Bool
has_at r o test p = list_any (λ c. test c.entry.op && (c.position == p)) (changes_of r o)

-- how many times object o has completed before position p: the number, from 0, of a `complete` there
abbrev pub completed_before : Recorded → ℕ → ℕ → ℕ
completed_before r o p = length (filter (λ c. completes c.entry.op && nat_lt c.position p) (changes_of r o))

-- the change at position q is the last arrival before the next `complete` after position p
pub record IsLastArrival (r : Recorded) (o p q : ℕ) : Type 0 where
  pub completion : ℕ
  pub behind : q < completion
  pub completes_there : IsTrue (has_at r o completes completion)
  pub is_next : (k : ℕ) → p < k → k < completion → IsTrue (has_at r o completes k) → ⊥
  pub is_last : (k : ℕ) → q < k → k < completion → IsTrue (has_at r o arrives k) → ⊥

-- ---- a change of an object and a later act

-- what a row asks beside its words, of the change at position p with number a and of the act at q with number b: that the act is the last arrival
-- of the phase, that the phase that it waited for is the one that was completed or a later one, or that both have the same ID
abbrev pub Fits : Recorded → ℕ → Row → ℕ → ℤ → ℕ → ℤ → Type 0
Fits r o rows.Arrival p a q b = IsLastArrival r o p q
Fits r o rows.Completion p a q b = (phase : ℕ) × (small_of b ≡ Some phase) × (completed_before r o p ≤ phase)
Fits r o rows.Registration p a q b = (id : ℕ) × (small_of a ≡ Some id) × (small_of b ≡ Some id)
Fits r o rows.CallbackEnd p a q b = (id : ℕ) × (small_of a ≡ Some id) × (small_of b ≡ Some id)
Fits r o _ p a q b = Unit {0}

-- the change e of object o at position p has a row that leads to an act with the number b, which is at a greater position or has a greater stamp q
pub record Hands (s : Scene) (r : Recorded) (o p : ℕ) (e : Entry) (taken : Row → Bool) (q : ℕ) (b : ℤ) : Type 0 where
  pub object : Object
  pub row : Row
  pub declared : slice_get s.objects o ≡ Some object
  pub left : given (kind_of object) e.op ≡ Some row
  pub right : IsTrue (taken row)
  pub later : p < q
  pub fits : Fits r o row p e.a q b

-- an item synchronizes with another
abbrev pub Synchronizes : Scene → Recorded → Item → Item → Type 0
Synchronizes s r (items.Change o p e) (items.Change o2 q f) = (o.0 ≡ o2.0) × Hands s r o.0 p e (λ row. taken_by_change row f.op f.reply) q f.a
Synchronizes s r (items.Change o p e) (items.Look o2 l) = (o.0 ≡ o2.0) × Hands s r o.0 p e (λ row. taken_by_look row l.op l.reply) l.at l.a
Synchronizes s r _ _ = ⊥

-- ---- edges

pub data Edge (s : Scene) (r : Recorded) : Point → Point → Type 0 where
  -- a thread goes on: [intro.races], sequenced before
  next : (t i : ℕ) → i < length (list_of r t) → Edge s r (point t i) (point t (i + 1))
  -- a start or launch that had a thread: [thread.thread.constr], [thread.jthread.cons], [futures.async]
  begins : (t i : ℕ) (x : Item) → item_at r 0 i ≡ Some x → IsTrue (starts t x) → Edge s r (point 0 i) (point t 0)
  -- a join: [thread.thread.member], [thread.jthread.mem]
  joins : (t : ThreadNo) (i : ℕ) → item_at r 0 i ≡ Some (items.Control (controls.Join t)) → Edge s r (point t.0 (length (list_of r t.0))) (point 0 (i + 1))
  -- a row of the table
  hands : (t i u j : ℕ) (x y : Item) → item_at r t i ≡ Some x → item_at r u j ≡ Some y → Synchronizes s r x y → Edge s r (point t i) (point u (j + 1))

-- ---- the synchronization order

-- a point reaches another where a chain of at least one edge leads there
pub data Reaches (s : Scene) (r : Recorded) : Point → Point → Type 0 where
  one : (p q : Point) → Edge s r p q → Reaches s r p q
  more : (p q w : Point) → Reaches s r p q → Edge s r q w → Reaches s r p w

-- of two points, the lesser by thread and item
abbrev pub IsBefore : Point → Point → Type 0
IsBefore p q = (p.thread < q.thread) ⊎ ((p.thread ≡ q.thread) × (p.item < q.item))

-- the least point that reaches itself
pub record IsFirstCycle (s : Scene) (r : Recorded) (p : Point) : Type 0 where
  pub is_point : IsPoint r p
  pub reaches_itself : Reaches s r p p
  pub is_least : (q : Point) → IsBefore q p → Reaches s r q q → ⊥

-- no point reaches itself
abbrev pub HasNoCycle : Scene → Recorded → Type 0
HasNoCycle s r = (p : Point) → Reaches s r p p → ⊥

-- an answer is yes exactly where this holds
abbrev pub Tells : Bool → Type 0 → Type 0
Tells true P = P
Tells false P = P → ⊥
