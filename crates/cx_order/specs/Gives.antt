-- What is given, as a list in some order.
use Rattle.std.specs.Prelude.{◌≡◌, ℕ, ◌<◌, List, slice_get, Option, Some, None}
use Rattle.cx_scene.specs.Scene.{Scene}
use Rattle.cx_items.specs.declared.item.Item.{Item}
use Rattle.cx_history.specs.Histories.{Recorded, item_at}
use Rattle.cx_graph.specs.declared.give.Give.{Give}
use Rattle.cx_order.specs.Arcs.{node_of, give_of}

-- the item that gives this
pub record IsOrigin (s : Scene) (r : Recorded) (g : Give) : Type 0 where
  pub thread : ℕ
  pub place : ℕ
  pub item : Item
  pub there : item_at r thread place ≡ Some item
  pub gives : give_of s r (node_of r thread place) item ≡ Some g

-- these are what all items give
pub record AreGives (s : Scene) (r : Recorded) (gs : List Give) : Type 0 where
  pub from_items : (k : ℕ) (g : Give) → slice_get gs k ≡ Some g → IsOrigin s r g
  pub of_all : (t i : ℕ) (x : Item) (g : Give) → item_at r t i ≡ Some x → give_of s r (node_of r t i) x ≡ Some g → (k : ℕ) × (slice_get gs k ≡ Some g)

-- its key and place are numbers of 32 bits
abbrev pub IsSmall : Give → Type 0
IsSmall g = (g.key < 4294967296) × (g.place < 4294967296)

abbrev pub MayBeSmall : Option Give → Type 0
MayBeSmall None = Unit {0}
MayBeSmall (Some g) = IsSmall g

abbrev pub AreSmall : List Give → Type 0
AreSmall gs = (k : ℕ) (g : Give) → slice_get gs k ≡ Some g → IsSmall g
