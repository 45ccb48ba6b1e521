-- The edges of a record as arcs on numbers: a node for each point, and a hub for each change that stands on the left of a row.
use Rattle.std.specs.Prelude.{◌≡◌, ◌⊎◌, ℕ, suc, ◌+◌, ◌-◌, ◌*◌, ◌<◌, ◌==◌, ℤ, Bool, true, false, List, [], ◌∷◌, ◌++◌, length, take, min, slice_get, Option, Some, None, option_map, if◌then◌else◌}
use Rattle.std.specs.Option.{option_to_list}
use Rattle.cx_machine.specs.Words.{small_of}
use Rattle.cx_machine.specs.declared.kind.Op.{Op}
use Rattle.cx_scene.specs.declared.declared.Object.{Object}
use Rattle.cx_scene.specs.Scene.{Scene, kind_of}
use Rattle.cx_items.specs.declared.item.Control.{Control}
use Rattle.cx_items.specs.declared.item.Control.TheVariants as controls
use Rattle.cx_items.specs.declared.item.Item.{Item}
use Rattle.cx_items.specs.declared.item.Item.TheVariants as items
use Rattle.cx_history.specs.Histories.{Recorded, items_of, list_of, item_at}
use Rattle.cx_graph.specs.declared.give.Give.{Give}
use Rattle.cx_graph.specs.Graph.{OneArc, NoArc, ChainArc, ArcOf}
use Rattle.cx_graph.specs.Hubs.{TakeArc, HubArcs}
use Rattle.cx_order.specs.declared.row.Row.{Row}
use Rattle.cx_order.specs.declared.row.Row.TheVariants as rows
use Rattle.cx_order.specs.declared.row.TheConstants.{ROWS}
use Rattle.cx_order.specs.Table.{given, number_of, taken_by_change, taken_by_look}
use Rattle.cx_order.specs.Edges.{completes, completed_before}
use Rattle.std.specs.List.{filter}

-- ---- nodes

-- how many points the lists have
abbrev pub points_in : List (Option (List Item)) → ℕ
points_in [] = 0
points_in (l ∷ ls) = suc (length (items_of l)) + points_in ls

-- the node of the first point of a list
abbrev pub first_of : Recorded → ℕ → ℕ
first_of r t = points_in (take t r.lists)

-- the node of a point
abbrev pub node_of : Recorded → ℕ → ℕ → ℕ
node_of r t i = first_of r t + i

-- the nodes of the first points of all lists, and that behind all points
pub record AreFirsts (r : Recorded) (firsts : List ℕ) : Type 0 where
  pub count : length firsts ≡ suc (length r.lists)
  pub each : (t : ℕ) → t < suc (length r.lists) → slice_get firsts t ≡ Some (first_of r t)

-- ---- the two ends of a row

-- the key and the place of a change on the left, by its position and number
abbrev pub given_as : Recorded → ℕ → Row → ℕ → ℤ → Option (ℕ × ℕ)
given_as r o rows.Arrival p a = Some (completed_before r o (p + 1), p)
given_as r o rows.Completion p a = Some (0, completed_before r o p)
given_as r o rows.Registration p a = option_map (λ id. (id, p)) (small_of a)
given_as r o rows.CallbackEnd p a = option_map (λ id. (id, p)) (small_of a)
given_as r o _ p a = Some (0, p)

-- the key and the bound of an act on the right, by its position or stamp and its number; an arrival has them where a `complete` is next
abbrev pub taken_as : Recorded → ℕ → Row → ℕ → ℤ → Option (ℕ × ℕ)
taken_as r o rows.Arrival q a = if completed_before r o (q + 1) == completed_before r o (q + 2) then None else Some (completed_before r o (q + 1), q)
taken_as r o rows.Completion q a = option_map (λ last. (0, min (last + 1) (completed_before r o q))) (small_of a)
taken_as r o rows.Registration q a = option_map (λ id. (id, q)) (small_of a)
taken_as r o rows.CallbackEnd q a = option_map (λ id. (id, q)) (small_of a)
taken_as r o _ q a = Some (0, q)

-- an object and a row
abbrev pub class_of : ℕ → Row → ℕ
class_of o row = o * 16 + number_of row

-- ---- what is given

abbrev pub give_as : ℕ → Row → ℕ → ℕ × ℕ → Give
give_as o row node k = record { class = class_of o row; key = k.0; place = k.1; node = node }

abbrev pub give_in : Recorded → ℕ → ℕ → ℤ → ℕ → Option Row → Option Give
give_in r o p a node None = None
give_in r o p a node (Some row) = option_map (give_as o row node) (given_as r o row p a)

-- the row on whose left a change of an object stands, if any
abbrev pub row_with : Option Object → Op → Option Row
row_with None op = None
row_with (Some d) op = given (kind_of d) op

abbrev pub row_of : Scene → ℕ → Op → Option Row
row_of s o op = row_with (slice_get s.objects o) op

-- what an item gives that stands at this node
abbrev pub give_of : Scene → Recorded → ℕ → Item → Option Give
give_of s r node (items.Change o p e) = give_in r o.0 p e.a node (row_of s o.0 e.op)
give_of s r node _ = None

-- what the items of a list give, of which the first stands at this node
abbrev pub gives_in : Scene → Recorded → ℕ → List Item → List Give
gives_in s r node [] = []
gives_in s r node (x ∷ xs) = option_to_list (give_of s r node x) ++ gives_in s r (node + 1) xs

abbrev pub gives_from : Scene → Recorded → ℕ → List (Option (List Item)) → List Give
gives_from s r node [] = []
gives_from s r node (l ∷ ls) = gives_in s r node (items_of l) ++ gives_from s r (node + suc (length (items_of l))) ls

-- ---- arcs

-- of a start at this node, if there was a thread to be had
abbrev pub StartArc : Recorded → ℕ → ℕ → Bool → ℕ → ℕ → Type 0
StartArc r node t true = OneArc node (first_of r t)
StartArc r node t false = NoArc

-- of a control of main at this node
abbrev pub ControlArc : Recorded → ℕ → Control → ℕ → ℕ → Type 0
ControlArc r node (controls.Start t ok) = StartArc r node t.0 ok
ControlArc r node (controls.Launch t ok) = StartArc r node t.0 ok
ControlArc r node (controls.Join t) = OneArc (node_of r t.0 (length (list_of r t.0))) (node + 1)

-- of an item of main
abbrev pub MainArc : Recorded → ℕ → Item → ℕ → ℕ → Type 0
MainArc r node (items.Control c) = ControlArc r node c
MainArc r node _ = NoArc

-- to an act on the right of a row
abbrev pub KeyArc : List Give → ℕ → ℕ → Row → ℕ → Option (ℕ × ℕ) → ℕ → ℕ → Type 0
KeyArc gives base o row target None = NoArc
KeyArc gives base o row target (Some k) = TakeArc gives base (class_of o row) k.0 k.1 target

abbrev pub RowArc : Recorded → List Give → ℕ → ℕ → Row → ℕ → ℤ → ℕ → ℕ → ℕ → Type 0
RowArc r gives base o row q a target = KeyArc gives base o row target (taken_as r o row q a)

-- to an act on the right of the k-th of these rows
abbrev pub OneRowArc : Recorded → List Give → ℕ → ℕ → List Row → ℕ → ℤ → ℕ → ℕ → ℕ → ℕ → Type 0
OneRowArc r gives base o rs q a target k x y = (row : Row) × (slice_get rs k ≡ Some row) × RowArc r gives base o row q a target x y

abbrev pub RowsArc : Recorded → List Give → ℕ → ℕ → List Row → ℕ → ℤ → ℕ → ℕ → ℕ → Type 0
RowsArc r gives base o rs q a target = ArcOf (OneRowArc r gives base o rs q a target) (length rs)

-- to an item that leads to this node
abbrev pub ItemArc : Recorded → List Give → ℕ → ℕ → Item → ℕ → ℕ → Type 0
ItemArc r gives base target (items.Change o q f) = RowsArc r gives base o.0 (filter (λ row. taken_by_change row f.op f.reply) ROWS) q f.a target
ItemArc r gives base target (items.Look o l) = RowsArc r gives base o.0 (filter (λ row. taken_by_look row l.op l.reply) ROWS) l.at l.a target
ItemArc r gives base target _ = NoArc

-- of the items of a list, of which the first stands at node `first`
abbrev pub OneItemArc : Recorded → List Give → ℕ → List Item → ℕ → ℕ → ℕ → ℕ → Type 0
OneItemArc r gives base list first i x y = (it : Item) × (slice_get list i ≡ Some it) × ItemArc r gives base (first + i + 1) it x y

abbrev pub ListArc : Recorded → List Give → ℕ → ℕ → ℕ → ℕ → Type 0
ListArc r gives base t x y = ArcOf (OneItemArc r gives base (list_of r t) (first_of r t)) (length (list_of r t)) x y

abbrev pub NextArc : Recorded → ℕ → ℕ → ℕ → Type 0
NextArc r t = ChainArc (first_of r t) (length (list_of r t))

abbrev pub OneMainArc : Recorded → ℕ → ℕ → ℕ → Type 0
OneMainArc r i x y = (it : Item) × (item_at r 0 i ≡ Some it) × MainArc r (node_of r 0 i) it x y

-- ALL ARCS
abbrev pub OwnArc : Recorded → ℕ → ℕ → Type 0
OwnArc r x y = ArcOf (NextArc r) (length r.lists) x y ⊎ ArcOf (OneMainArc r) (length (list_of r 0)) x y

abbrev pub HandArc : Recorded → List Give → ℕ → ℕ → ℕ → Type 0
HandArc r gives base x y = ArcOf (HubArcs gives base) (length gives) x y ⊎ ArcOf (ListArc r gives base) (length r.lists) x y
