-- Between the nodes of points the paths of the graph are what the edges make.
use Rattle.std.proofs.Common.{◌≡◌, ◌⊎◌, inl, inr, ℕ, zero, suc, ◌+◌, ◌-◌, ◌*◌, ◌<◌, ◌≤◌, ◌==◌, ◌&&◌, Bool, true, false, cond, List, [], ◌∷◌, length, filter, slice_get, Option, Some, None, option_map, refl, sym, ap, ◌∙◌, subst, arith, eqb-true, eq-eqb}
use Rattle.std.specs.Prelude.{IsTrue, ℤ, option_and_then, nat_lt}
use Rattle.std.proofs.lemmas.Bool.{ltb-true, lt-ltb}
use Rattle.std.specs.List.Sorted.{IsNonDecreasingBy}
use Rattle.cx_names.specs.declared.ObjectNo.{ObjectNo}
use Rattle.cx_names.specs.declared.ThreadNo.{ThreadNo}
use Rattle.cx_machine.specs.declared.kind.Entry.{Entry}
use Rattle.cx_machine.specs.declared.kind.Op.{Op}
use Rattle.cx_scene.specs.declared.declared.Object.{Object}
use Rattle.cx_scene.specs.Scene.{Scene, kind_of}
use Rattle.cx_items.specs.declared.item.Control.TheVariants as controls
use Rattle.cx_items.specs.declared.item.Item.{Item}
use Rattle.cx_items.specs.declared.item.Item.TheVariants as items
use Rattle.cx_history.specs.Histories.{Recorded, Placed, item_at, list_of, changes_of, items_of}
use Rattle.cx_history.specs.IsRecord.{IsRecord}
use Rattle.cx_history.specs.Legal.{LegalRecord}
use Rattle.cx_history.specs.Follows.{starts}
use Rattle.cx_graph.specs.declared.give.Give.{Give}
use Rattle.cx_graph.specs.declared.graph.Node.{Node}
use Rattle.cx_graph.specs.Graph.{Arc, Path, one, more, OneArc, NoArc, ChainArc, ArcOf}
use Rattle.cx_graph.specs.Hubs.{group_of, group_in, rank_of, IsOf, IsLast, TakeArc, HubArcs, NextOf}
use Rattle.cx_graph.proofs.Hubbing.{ranks_rise, group_apart}
use Rattle.cx_graph.proofs.Numbers.{dec_eq, le_or_lt}
use Rattle.cx_order.specs.declared.row.Row.{Row}
use Rattle.cx_order.specs.declared.row.Row.TheVariants as rows
use Rattle.cx_order.specs.declared.row.TheConstants.{ROWS}
use Rattle.cx_order.specs.Points.{Point, point}
use Rattle.cx_order.specs.Table.{given, number_of, taken_by_change, taken_by_look}
use Rattle.cx_order.specs.Edges.{completes, arrives, has_at, Fits, Hands, Synchronizes, Edge, next, begins, joins, hands, Reaches}
use Rattle.cx_order.specs.Arcs.{first_of, node_of, given_as, taken_as, class_of, row_with, row_of, give_as, give_in, give_of, StartArc, ControlArc, MainArc, KeyArc, RowArc, RowsArc, OneRowArc, ItemArc, OneItemArc, ListArc, NextArc, OneMainArc, OwnArc, HandArc}
use Rattle.cx_order.specs.Gives.{IsOrigin, AreGives, IsSmall}
use Rattle.cx_order.specs.Parts.{is_apt, names_list}
use Rattle.cx_order.proofs.Walks.{some_is, is_within, there_is, list_there}
use Rattle.cx_order.proofs.Nodes.{nodes_apart, node_within}
use Rattle.cx_order.proofs.Positions.{In, in_head, in_tail, in_cases, in_nothing, in_any, item_change}
use Rattle.cx_order.proofs.Rows.{to_edge, Ends, from_edge, held_before, completion_completes, arrival_of_barrier}

-- ---- rows

row_of_number : ℕ → Row
row_of_number n = cond (n == 0) rows.Unlock (cond (n == 1) rows.UnlockShared (cond (n == 2) rows.Release (cond (n == 3) rows.CountDown (cond (n == 4) rows.Arrival (cond (n == 5) rows.Completion (cond (n == 6) rows.Failure (cond (n == 7) rows.Finish (cond (n == 8) rows.Request (cond (n == 9) rows.Registration (cond (n == 10) rows.CallbackEnd rows.Outcome))))))))))

row_back : (row : Row) → row_of_number (number_of row) ≡ row
unfolding row_of_number
row_back rows.Unlock = refl
row_back rows.UnlockShared = refl
row_back rows.Release = refl
row_back rows.CountDown = refl
row_back rows.Arrival = refl
row_back rows.Completion = refl
row_back rows.Failure = refl
row_back rows.Finish = refl
row_back rows.Request = refl
row_back rows.Registration = refl
row_back rows.CallbackEnd = refl
row_back rows.Outcome = refl

number_small : (row : Row) → number_of row < 16
number_small rows.Unlock = omega arith
number_small rows.UnlockShared = omega arith
number_small rows.Release = omega arith
number_small rows.CountDown = omega arith
number_small rows.Arrival = omega arith
number_small rows.Completion = omega arith
number_small rows.Failure = omega arith
number_small rows.Finish = omega arith
number_small rows.Request = omega arith
number_small rows.Registration = omega arith
number_small rows.CallbackEnd = omega arith
number_small rows.Outcome = omega arith

pub same_class : (o q : ℕ) (row other : Row) → class_of o row ≡ class_of q other → (o ≡ q) × (row ≡ other)
same_class o q row other same =
    let a = number_small row in
    let b = number_small other in
    let e : o ≡ q = omega (arith, a, b, same) in
    let n : number_of row ≡ number_of other = omega (arith, e, same) in
    (e, sym (row_back row) ∙ (ap row_of_number n ∙ row_back other))

pub row_in : (row : Row) → In ROWS row
row_in rows.Unlock = (0, refl)
row_in rows.UnlockShared = (1, refl)
row_in rows.Release = (2, refl)
row_in rows.CountDown = (3, refl)
row_in rows.Arrival = (4, refl)
row_in rows.Completion = (5, refl)
row_in rows.Failure = (6, refl)
row_in rows.Finish = (7, refl)
row_in rows.Request = (8, refl)
row_in rows.Registration = (9, refl)
row_in rows.CallbackEnd = (10, refl)
row_in rows.Outcome = (11, refl)

-- the rows that pass a test
pub passes : (f : Row → Bool) (rs : List Row) (k : ℕ) (row : Row) → slice_get (filter f rs) k ≡ Some row → f row ≡ true
passes f [] k row at_ = cc
passes f (x ∷ rs) k row at_ = by (f x) refl k at_ (λ j h. passes f rs j row h)
  where
    by : (b : Bool) → f x ≡ b → (j : ℕ) → slice_get (cond b (x ∷ filter f rs) (filter f rs)) j ≡ Some row → ((i : ℕ) → slice_get (filter f rs) i ≡ Some row → f row ≡ true) → f row ≡ true
    by true e zero h ih = ap f (sym (some_is x row h)) ∙ e
    by true e (suc j) h ih = ih j h
    by false e j h ih = ih j h

pub passing : (f : Row → Bool) (rs : List Row) (row : Row) → In rs row → f row ≡ true → In (filter f rs) row
passing f [] row in_ h = absurd (in_nothing row in_)
passing f (x ∷ rs) row in_ h = by (f x) refl (in_cases x row rs in_) (λ k. passing f rs row k h)
  where
    by : (b : Bool) → f x ≡ b → (x ≡ row) ⊎ In rs row → (In rs row → In (filter f rs) row) → In (cond b (x ∷ filter f rs) (filter f rs)) row
    by true e (inl is) ih = subst (λ (y : Row). In (x ∷ filter f rs) y) is (in_head x (filter f rs))
    by true e (inr later) ih = in_tail x row (filter f rs) (ih later)
    by false e (inl is) ih = let t : f x ≡ true = ap f is ∙ h in absurd (wrong (sym e ∙ t))
      where
        wrong : false ≡ true → ⊥
        wrong q = cc
    by false e (inr later) ih = ih later

-- ---- what is given

pub record GivenBy (s : Scene) (r : Recorded) (node : ℕ) (x : Item) (h : Give) : Type 0 where
  pub object : ObjectNo
  pub position : ℕ
  pub entry : Entry
  pub declared : Object
  pub row : Row
  pub ends : ℕ × ℕ
  pub item_is : x ≡ items.Change object position entry
  pub there : slice_get s.objects object.0 ≡ Some declared
  pub left : given (kind_of declared) entry.op ≡ Some row
  pub as_given : given_as r object.0 row position entry.a ≡ Some ends
  pub is : h ≡ give_as object.0 row node ends

pub given_by : (s : Scene) (r : Recorded) (node : ℕ) (x : Item) (h : Give) → give_of s r node x ≡ Some h → GivenBy s r node x h
given_by s r node (items.Look o l) h gives = cc
given_by s r node (items.Control c) h gives = cc
given_by s r node (items.Said q) h gives = cc
given_by s r node (items.Change o p e) h gives = of_object (slice_get s.objects o.0) refl gives
  where
    of_ends : (d : Object) → slice_get s.objects o.0 ≡ Some d → (row : Row) → given (kind_of d) e.op ≡ Some row → (k : Option (ℕ × ℕ)) → given_as r o.0 row p e.a ≡ k → option_map (give_as o.0 row node) k ≡ Some h → GivenBy s r node (items.Change o p e) h
    of_ends d there row left None as_ gives = cc
    of_ends d there row left (Some k) as_ gives = record { object = o; position = p; entry = e; declared = d; row = row; ends = k; item_is = refl; there = there; left = left; as_given = as_; is = sym (some_is (give_as o.0 row node k) h gives) }

    of_row : (d : Object) → slice_get s.objects o.0 ≡ Some d → (row : Option Row) → given (kind_of d) e.op ≡ row → give_in r o.0 p e.a node row ≡ Some h → GivenBy s r node (items.Change o p e) h
    of_row d there None left gives = cc
    of_row d there (Some row) left gives = of_ends d there row left (given_as r o.0 row p e.a) refl gives

    of_object : (d : Option Object) → slice_get s.objects o.0 ≡ d → give_in r o.0 p e.a node (row_with d e.op) ≡ Some h → GivenBy s r node (items.Change o p e) h
    of_object None there gives = cc
    of_object (Some d) there gives = of_row d there (given (kind_of d) e.op) refl gives

-- and what a change gives
pub gives_so : (s : Scene) (r : Recorded) (node : ℕ) (o : ObjectNo) (p : ℕ) (e : Entry) (d : Object) (row : Row) (k : ℕ × ℕ) → slice_get s.objects o.0 ≡ Some d → given (kind_of d) e.op ≡ Some row → given_as r o.0 row p e.a ≡ Some k → give_of s r node (items.Change o p e) ≡ Some (give_as o.0 row node k)
gives_so s r node o p e d row k there left as_ =
    let at_row : row_of s o.0 e.op ≡ Some row = ap (λ (x : Option Object). row_with x e.op) there ∙ left in
    ap (give_in r o.0 p e.a node) at_row ∙ ap (option_map (give_as o.0 row node)) as_

-- the node of what is given
pub give_node : (s : Scene) (r : Recorded) (node : ℕ) (x : Item) (h : Give) → give_of s r node x ≡ Some h → h.node ≡ node
give_node s r node x h gives = let w = given_by s r node x h gives in ap (λ (g : Give). g.node) w.is

-- an item stands in a list that is there
pub item_valid : (r : Recorded) (t i : ℕ) (x : Item) → item_at r t i ≡ Some x → (t < length r.lists) × (i < length (list_of r t))
item_valid r t i x at_ = (by (slice_get r.lists t) refl at_, is_within (list_of r t) i x at_)
  where
    by : (l : Option (Option (List Item))) → slice_get r.lists t ≡ l → slice_get (items_of (option_and_then (λ y. y) l)) i ≡ Some x → t < length r.lists
    by None there here = cc
    by (Some l) there here = is_within r.lists t l there

-- ---- hubs

-- a later hub of the same class and key stands no lower
pub places_rise : (gs : List Give) (y x : ℕ) (h k : Give) → IsNonDecreasingBy rank_of gs → y ≤ x → slice_get gs y ≡ Some h → slice_get gs x ≡ Some k → (k.class ≡ h.class) → (k.key ≡ h.key) → h.place ≤ k.place
places_rise gs y x h k rising le at_y at_x class_ key_ =
    let up : rank_of h ≤ rank_of k = ranks_rise gs y x h k rising le at_y at_x in
    let same : rank_of k ≡ group_of h.class h.key * 4294967296 + k.place = ap (λ (c : ℕ). group_of c k.key * 4294967296 + k.place) class_ ∙ ap (λ (n : ℕ). group_of h.class n * 4294967296 + k.place) key_ in
    plain (group_of h.class h.key * 4294967296) h.place k.place (rank_of k) up same
  where
    plain : (g p q m : ℕ) → g + p ≤ m → m ≡ g + q → p ≤ q
    plain g p q m up same = omega arith

-- one between two of a class and key is of them
pub between : (gs : List Give) (y z x : ℕ) (h j k : Give) (class key : ℕ) → IsNonDecreasingBy rank_of gs → IsSmall h → IsSmall j → IsSmall k → y ≤ z → z ≤ x → slice_get gs y ≡ Some h → slice_get gs z ≡ Some j → slice_get gs x ≡ Some k → IsOf h class key → IsOf k class key → IsOf j class key
between gs y z x h j k class key rising small_h small_j small_k le_y le_z at_y at_z at_x of_h of_k =
    let low : rank_of h ≤ rank_of j = ranks_rise gs y z h j rising le_y at_y at_z in
    let high : rank_of j ≤ rank_of k = ranks_rise gs z x j k rising le_z at_z at_x in
    let a : rank_of h ≡ group_of class key * 4294967296 + h.place = ap (λ (c : ℕ). group_of c h.key * 4294967296 + h.place) of_h.0 ∙ ap (λ (n : ℕ). group_of class n * 4294967296 + h.place) of_h.1 in
    let b : rank_of k ≡ group_of class key * 4294967296 + k.place = ap (λ (c : ℕ). group_of c k.key * 4294967296 + k.place) of_k.0 ∙ ap (λ (n : ℕ). group_of class n * 4294967296 + k.place) of_k.1 in
    let same : group_in j ≡ group_of class key = plain (group_in j) (group_of class key) j.place h.place k.place (rank_of h) (rank_of k) small_j.1 small_k.1 a b low high in
    group_apart j class key small_j.0 (subst (λ (n : ℕ). n < 4294967296) of_h.1 small_h.0) same
  where
    plain : (g m p q n a b : ℕ) → p < 4294967296 → n < 4294967296 → a ≡ m * 4294967296 + q → b ≡ m * 4294967296 + n → a ≤ g * 4294967296 + p → g * 4294967296 + p ≤ b → g ≡ m
    plain g m p q n a b sp sn ea eb low high = omega arith

-- among the first n, the last of a class and key below a bound, where there is one
is_of : Give → ℕ → ℕ → ℕ → Bool
is_of g class key bound = (g.class == class) && ((g.key == key) && nat_lt g.place bound)

is_of_parts : (a b c : Bool) → a && (b && c) ≡ true → (a ≡ true) × (b ≡ true) × (c ≡ true)
is_of_parts true true true h = (refl, refl, refl)
is_of_parts true true false h = cc
is_of_parts true false c h = cc
is_of_parts false b c h = cc

is_of_so : (g : Give) (class key bound : ℕ) → IsOf g class key → g.place < bound → is_of g class key bound ≡ true
unfolding is_of
is_of_so g class key bound is less = rw (eq-eqb g.class class is.0, eq-eqb g.key key is.1) (lt-ltb g.place bound less)

so_is_of : (g : Give) (class key bound : ℕ) → is_of g class key bound ≡ true → IsOf g class key × (g.place < bound)
unfolding is_of
so_is_of g class key bound h = let p = is_of_parts (g.class == class) (g.key == key) (nat_lt g.place bound) h in ((eqb-true g.class class p.0, eqb-true g.key key p.1), ltb-true g.place bound p.2)

record LastBefore (gs : List Give) (class key bound n : ℕ) : Type 0 where
  at : ℕ
  give : Give
  there : slice_get gs at ≡ Some give
  in_group : IsOf give class key
  below : give.place < bound
  is_last : (y : ℕ) (h : Give) → y < n → slice_get gs y ≡ Some h → IsOf h class key → h.place < bound → y ≤ at

last_before : (gs : List Give) (class key bound n : ℕ) (y : ℕ) (h : Give) → y < n → slice_get gs y ≡ Some h → IsOf h class key → h.place < bound → LastBefore gs class key bound n
last_before gs class key bound zero y h low there is less = absurd (omega arith)
last_before gs class key bound (suc n) y h low there is less = by (slice_get gs n) refl (λ lower. last_before gs class key bound n y h lower there is less)
  where
    past : (y < n → LastBefore gs class key bound n) → ((g : Give) → slice_get gs n ≡ Some g → IsOf g class key → g.place < bound → ⊥) → LastBefore gs class key bound (suc n)
    past ih none =
        let lower : y < n = under (dec_eq y n) in
        let w = ih lower in
        record {
          at = w.at;
          give = w.give;
          there = w.there;
          in_group = w.in_group;
          below = w.below;
          is_last = λ z g low_z at_z is_z less_z. go z g low_z at_z is_z less_z w (dec_eq z n);
        }
      where
        under : (y ≡ n) ⊎ (y ≡ n → ⊥) → y < n
        under (inl e) = absurd (none h (subst (λ (m : ℕ). slice_get gs m ≡ Some h) e there) is less)
        under (inr ne) = omega arith

        go : (z : ℕ) (g : Give) → z < suc n → slice_get gs z ≡ Some g → IsOf g class key → g.place < bound → (w : LastBefore gs class key bound n) → (z ≡ n) ⊎ (z ≡ n → ⊥) → z ≤ w.at
        go z g low_z at_z is_z less_z w (inl e) = absurd (none g (subst (λ (m : ℕ). slice_get gs m ≡ Some g) e at_z) is_z less_z)
        go z g low_z at_z is_z less_z w (inr ne) = w.is_last z g (omega arith) at_z is_z less_z

    of_give : (g : Give) → slice_get gs n ≡ Some g → (b : Bool) → is_of g class key bound ≡ b → (y < n → LastBefore gs class key bound n) → LastBefore gs class key bound (suc n)
    of_give g at_n true test ih = let p = so_is_of g class key bound test in record { at = n; give = g; there = at_n; in_group = p.0; below = p.1; is_last = λ z k low_z at_z is_z less_z. omega arith }
    of_give g at_n false test ih = past ih (λ k at_k is_k less_k. wrong (sym test ∙ (ap (λ (m : Give). is_of m class key bound) (some_is g k (sym at_n ∙ at_k)) ∙ is_of_so k class key bound is_k less_k)))
      where
        wrong : false ≡ true → ⊥
        wrong q = cc

    by : (g : Option Give) → slice_get gs n ≡ g → (y < n → LastBefore gs class key bound n) → LastBefore gs class key bound (suc n)
    by None none ih = past ih (λ k at_k is_k less_k. nothing k (sym none ∙ at_k))
      where
        nothing : (k : Give) → None ≡ Some k → ⊥
        nothing k q = cc
    by (Some g) at_n ih = of_give g at_n (is_of g class key bound) refl ih

pub last_of_group : (gs : List Give) (class key bound : ℕ) (y : ℕ) (h : Give) → slice_get gs y ≡ Some h → IsOf h class key → h.place < bound → (x : ℕ) × IsLast gs class key bound x × (y ≤ x)
last_of_group gs class key bound y h there is less =
    let w = last_before gs class key bound (length gs) y h (is_within gs y h there) there is less in
    (w.at, record { give = w.give; there = w.there; in_group = w.in_group; below = w.below; is_last = λ z g at_z is_z less_z. w.is_last z g (is_within gs z g at_z) at_z is_z less_z }, w.is_last y h (is_within gs y h there) there is less)
