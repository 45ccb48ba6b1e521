-- Between the nodes of points, the paths of a record's graph are what its edges make.
use Rattle.std.proofs.Common.{◌≡◌, ◌⊎◌, inl, inr, ℕ, zero, suc, ◌+◌, ◌-◌, ◌*◌, ◌<◌, ◌≤◌, ◌==◌, ◌&&◌, Bool, true, false, List, [], ◌∷◌, length, filter, slice_get, Option, Some, None, refl, sym, ap, ◌∙◌, subst, arith, eq-eqb, eqb-true}
use Rattle.std.specs.Prelude.{IsTrue, ℤ}
use Rattle.std.specs.List.Sorted.{IsNonDecreasingBy}
use Rattle.cx_names.specs.declared.ObjectNo.{ObjectNo}
use Rattle.cx_names.specs.declared.ThreadNo.{ThreadNo}
use Rattle.cx_machine.specs.declared.kind.Entry.{Entry}
use Rattle.cx_machine.specs.declared.kind.Look.{Look}
use Rattle.cx_scene.specs.declared.declared.Object.{Object}
use Rattle.cx_scene.specs.Scene.{Scene, kind_of}
use Rattle.cx_items.specs.declared.item.Control.{Control}
use Rattle.cx_items.specs.declared.item.Control.TheVariants as controls
use Rattle.cx_items.specs.declared.item.Item.{Item}
use Rattle.cx_items.specs.declared.item.Item.TheVariants as items
use Rattle.cx_history.specs.Histories.{Recorded, Placed, item_at, list_of, changes_of}
use Rattle.cx_history.specs.IsRecord.{IsRecord}
use Rattle.cx_history.specs.Legal.{LegalRecord, EachItem}
use Rattle.cx_history.specs.Follows.{starts}
use Rattle.cx_graph.specs.declared.give.Give.{Give}
use Rattle.cx_graph.specs.declared.graph.Node.{Node}
use Rattle.cx_graph.specs.Graph.{Arc, Path, one, more}
use Rattle.cx_graph.specs.Hubs.{rank_of, IsOf, IsLast, NextOf}
use Rattle.cx_order.specs.declared.row.Row.{Row}
use Rattle.cx_order.specs.declared.row.Row.TheVariants as rows
use Rattle.cx_order.specs.declared.row.TheConstants.{ROWS}
use Rattle.cx_order.specs.Points.{Point, point}
use Rattle.cx_order.specs.Table.{given, taken_by_change, taken_by_look}
use Rattle.cx_order.specs.Edges.{completes, arrives, has_at, Fits, Hands, Synchronizes, Edge, next, begins, joins, hands, Reaches, one as one_edge, more as more_edges}
use Rattle.cx_order.specs.Arcs.{first_of, node_of, given_as, taken_as, class_of, give_as, give_of, MainArc, ControlArc, StartArc, KeyArc, ItemArc, RowsArc, RowArc, OwnArc, HandArc}
use Rattle.cx_order.specs.Gives.{IsOrigin, AreGives, IsSmall}
use Rattle.cx_order.specs.Parts.{is_apt, names_list}
use Rattle.cx_graph.proofs.Numbers.{dec_eq}
use Rattle.cx_order.proofs.Walks.{some_is, is_within, there_is}
use Rattle.cx_order.proofs.Nodes.{nodes_apart, node_within}
use Rattle.cx_order.proofs.Positions.{In, in_any, item_change}
use Rattle.cx_order.proofs.Rows.{to_edge, Ends, from_edge, held_before, completion_completes, arrival_of_barrier}
use Rattle.cx_order.proofs.Reduction.{same_class, row_in, passes, passing, GivenBy, given_by, gives_so, give_node, item_valid, places_rise, between, last_of_group}

-- a place in a list that is there
abbrev pub IsValid : Recorded → ℕ → ℕ → Type 0
IsValid r t i = (t < length r.lists) × (i ≤ length (list_of r t))

-- the same point, or one that is reached
abbrev OrOn : Scene → Recorded → Point → Point → Type 0
OrOn s r p q = (p ≡ q) ⊎ Reaches s r p q

edge_on : (s : Scene) (r : Recorded) (p q w : Point) → OrOn s r p q → Edge s r q w → Reaches s r p w
edge_on s r p q w (inl same) edge = one_edge p w (subst (λ (x : Point). Edge s r x w) (sym same) edge)
edge_on s r p q w (inr reach) edge = more_edges p q w reach edge

-- how a point comes to a hub
record HubReached (s : Scene) (r : Recorded) (gs : List Give) (p : Point) (x : ℕ) : Type 0 where
  from_hub : ℕ
  give : Give
  hub : Give
  at_give : slice_get gs from_hub ≡ Some give
  at_hub : slice_get gs x ≡ Some hub
  later : from_hub ≤ x
  alike : IsOf hub give.class give.key
  origin : IsOrigin s r give
  comes : OrOn s r p (point origin.thread origin.place)

-- how a point stands to a node: at it, or before it
record At (s : Scene) (r : Recorded) (gs : List Give) (base : ℕ) (p : Point) (c : ℕ) : Type 0 where
  at_points : (u j : ℕ) → IsValid r u j → c ≡ node_of r u j → OrOn s r p (point u j)
  at_hubs : (x : ℕ) → c ≡ base + x → HubReached s r gs p x

record Reached (s : Scene) (r : Recorded) (gs : List Give) (base : ℕ) (p : Point) (c : ℕ) : Type 0 where
  to_points : (u j : ℕ) → IsValid r u j → c ≡ node_of r u j → Reaches s r p (point u j)
  to_hubs : (x : ℕ) → c ≡ base + x → HubReached s r gs p x

at_reached : (s : Scene) (r : Recorded) (gs : List Give) (base : ℕ) (p : Point) (c : ℕ) → Reached s r gs base p c → At s r gs base p c
at_reached s r gs base p c w = record { at_points = λ u j valid e. inr (w.to_points u j valid e); at_hubs = w.to_hubs }

module _ (s : Scene) (r : Recorded) (gs : List Give) (base : ℕ) (is_base : base ≡ first_of r (length r.lists)) where
  below_base : (u j : ℕ) → IsValid r u j → node_of r u j < base
  below_base u j valid = let w = node_within r u j valid.0 valid.1 in omega arith

  -- a point that is reached
  point_reached : (p : Point) (u j c : ℕ) → IsValid r u j → c ≡ node_of r u j → Reaches s r p (point u j) → Reached s r gs base p c
  point_reached p u j c valid is reach = record {
    to_points = λ v k other e. (let same = nodes_apart r u j v k valid.0 valid.1 other.0 other.1 (sym is ∙ e) in subst (λ (m : ℕ). Reaches s r p (point m k)) same.0 (subst (λ (m : ℕ). Reaches s r p (point u m)) same.1 reach));
    to_hubs = λ x e. (let b = below_base u j valid in absurd (omega arith));
  }

  -- a hub that is reached
  hub_reached : (p : Point) (x c : ℕ) → c ≡ base + x → HubReached s r gs p x → Reached s r gs base p c
  hub_reached p x c is comes = record {
    to_points = λ v k other e. (let b = below_base v k other in absurd (omega arith));
    to_hubs = λ y e. (let same : x ≡ y = omega arith in subst (λ (m : ℕ). HubReached s r gs p m) same comes);
  }

  -- at its own node
  at_own : (t i : ℕ) → IsValid r t i → At s r gs base (point t i) (node_of r t i)
  at_own t i valid = record {
    at_points = λ v k other e. (let same = nodes_apart r t i v k valid.0 valid.1 other.0 other.1 e in inl (ap (λ (m : ℕ). point m i) same.0 ∙ ap (λ (m : ℕ). point v m) same.1));
    at_hubs = λ x e. (let b = below_base t i valid in absurd (omega arith));
  }

  module _ (apt : EachItem r (λ t i x. is_apt r x)) (are : AreGives s r gs) (rising : IsNonDecreasingBy rank_of gs) where
    start_step : (p : Point) (c b i t : ℕ) (ok : Bool) (x : Item) → At s r gs base p c → item_at r 0 i ≡ Some x → t < length r.lists → (ok ≡ true → IsTrue (starts t x)) → StartArc r (node_of r 0 i) t ok c b → Reached s r gs base p b
    start_step p c b i t true x at_ there low starts_it arc =
        let v = item_valid r 0 i x there in
        let from_ = at_.at_points 0 i (v.0, omega (arith, v.1)) arc.0 in
        point_reached p t 0 b (low, omega arith) (arc.1 ∙ omega arith) (edge_on s r p (point 0 i) (point t 0) from_ (begins t i x there (starts_it refl)))
    start_step p c b i t false x at_ there low starts_it arc = absurd arc

    main_step : (p : Point) (c b i : ℕ) (x : Item) → At s r gs base p c → item_at r 0 i ≡ Some x → MainArc r (node_of r 0 i) x c b → Reached s r gs base p b
    main_step p c b i (items.Control (controls.Start t ok)) at_ there arc = start_step p c b i t.0 ok (items.Control (controls.Start t ok)) at_ there (apt 0 i (items.Control (controls.Start t ok)) there) (λ e. rw (e, eq-eqb t.0 t.0 refl) refl) arc
    main_step p c b i (items.Control (controls.Launch t ok)) at_ there arc = start_step p c b i t.0 ok (items.Control (controls.Launch t ok)) at_ there (apt 0 i (items.Control (controls.Launch t ok)) there) (λ e. rw (e, eq-eqb t.0 t.0 refl) refl) arc
    main_step p c b i (items.Control (controls.Join t)) at_ there arc =
        let v = item_valid r 0 i (items.Control (controls.Join t)) there in
        let low = apt 0 i (items.Control (controls.Join t)) there in
        let from_ = at_.at_points t.0 (length (list_of r t.0)) (low, omega arith) arc.0 in
        point_reached p 0 (i + 1) b (v.0, omega (arith, v.1)) (arc.1 ∙ omega arith) (edge_on s r p (point t.0 (length (list_of r t.0))) (point 0 (i + 1)) from_ (joins t i there))
    main_step p c b i (items.Change o q e) at_ there arc = absurd arc
    main_step p c b i (items.Look o l) at_ there arc = absurd arc
    main_step p c b i (items.Said q) at_ there arc = absurd arc

    next_step : (p : Point) (c b t i : ℕ) → At s r gs base p c → t < length r.lists → i < length (list_of r t) → c ≡ first_of r t + i → b ≡ first_of r t + i + 1 → Reached s r gs base p b
    next_step p c b t i at_ low within from_ to_ =
        point_reached p t (i + 1) b (low, omega arith) (to_ ∙ omega arith) (edge_on s r p (point t i) (point t (i + 1)) (at_.at_points t i (low, omega arith) from_) (next t i within))

    enter_step : (p : Point) (c b x : ℕ) (h : Give) → At s r gs base p c → slice_get gs x ≡ Some h → c ≡ h.node → b ≡ base + x → Reached s r gs base p b
    enter_step p c b x h at_ there from_ to_ =
        let o = are.from_items x h there in
        let v = item_valid r o.thread o.place o.item o.there in
        let n = give_node s r (node_of r o.thread o.place) o.item h o.gives in
        let comes = at_.at_points o.thread o.place (v.0, omega (arith, v.1)) (from_ ∙ n) in
        hub_reached p x b to_ (record { from_hub = x; give = h; hub = h; at_give = there; at_hub = there; later = omega arith; alike = (refl, refl); origin = o; comes = comes })

    on_step : (p : Point) (c b x : ℕ) → At s r gs base p c → NextOf gs base x c b → Reached s r gs base p b
    on_step p c b x at_ (g, at_g, (h, at_h, alike, arc)) =
        let w = at_.at_hubs x arc.0 in
        let same : w.hub ≡ g = some_is w.hub g (sym w.at_hub ∙ at_g) in
        let class_ : h.class ≡ w.give.class = alike.0 ∙ (ap (λ (k : Give). k.class) (sym same) ∙ w.alike.0) in
        let key_ : h.key ≡ w.give.key = alike.1 ∙ (ap (λ (k : Give). k.key) (sym same) ∙ w.alike.1) in
        let up = w.later in
        hub_reached p (x + 1) b (arc.1 ∙ omega arith) (record { from_hub = w.from_hub; give = w.give; hub = h; at_give = w.at_give; at_hub = at_h; later = omega (arith, up); alike = (class_, key_); origin = w.origin; comes = w.comes })

    -- the change that a taker takes from, and what it hands on
    record Taken (p : Point) (o : ℕ) (row : Row) (q : ℕ) (a : ℤ) : Type 0 where
      thread : ℕ
      place : ℕ
      object : ObjectNo
      position : ℕ
      entry : Entry
      declared : Object
      comes : OrOn s r p (point thread place)
      there : item_at r thread place ≡ Some (items.Change object position entry)
      same_object : object.0 ≡ o
      is_declared : slice_get s.objects object.0 ≡ Some declared
      left : given (kind_of declared) entry.op ≡ Some row
      earlier : position < q
      fits : Fits r object.0 row position entry.a q a

    taken_from : (p : Point) (c b x o : ℕ) (row : Row) (q : ℕ) (a : ℤ) (m : ℕ × ℕ) → At s r gs base p c → IsLast gs (class_of o row) m.0 m.1 x → c ≡ base + x → taken_as r o row q a ≡ Some m → Taken p o row q a
    taken_from p c b x o row q a m at_ last from_ as_taken =
        let w = at_.at_hubs x from_ in
        let og = w.origin in
        let gb = given_by s r (node_of r og.thread og.place) og.item w.give og.gives in
        let same : w.hub ≡ last.give = some_is w.hub last.give (sym w.at_hub ∙ last.there) in
        let hub_class : w.hub.class ≡ class_of o row = ap (λ (k : Give). k.class) same ∙ last.in_group.0 in
        let hub_key : w.hub.key ≡ m.0 = ap (λ (k : Give). k.key) same ∙ last.in_group.1 in
        let own_class : w.give.class ≡ class_of gb.object.0 gb.row = ap (λ (k : Give). k.class) gb.is in
        let own_key : w.give.key ≡ gb.ends.0 = ap (λ (k : Give). k.key) gb.is in
        let own_place : w.give.place ≡ gb.ends.1 = ap (λ (k : Give). k.place) gb.is in
        let both = same_class gb.object.0 o gb.row row (sym own_class ∙ (sym w.alike.0 ∙ hub_class)) in
        let keys : gb.ends.0 ≡ m.0 = sym own_key ∙ (sym w.alike.1 ∙ hub_key) in
        let rises : w.give.place ≤ w.hub.place = places_rise gs w.from_hub x w.give w.hub rising w.later w.at_give w.at_hub w.alike.0 w.alike.1 in
        let hub_place : w.hub.place ≡ last.give.place = ap (λ (k : Give). k.place) same in
        let under : last.give.place < m.1 = last.below in
        let less : gb.ends.1 < m.1 = omega arith in
        let left_as : given_as r gb.object.0 row gb.position gb.entry.a ≡ Some gb.ends = subst (λ (w : Row). given_as r gb.object.0 w gb.position gb.entry.a ≡ Some gb.ends) both.1 gb.as_given in
        let right_as : taken_as r gb.object.0 row q a ≡ Some m = subst (λ (k : ℕ). taken_as r k row q a ≡ Some m) (sym both.0) as_taken in
        let edge = to_edge r gb.object.0 row gb.position q gb.entry.a a gb.ends m left_as right_as keys less in
        record {
          thread = og.thread;
          place = og.place;
          object = gb.object;
          position = gb.position;
          entry = gb.entry;
          declared = gb.declared;
          comes = w.comes;
          there = og.there ∙ ap (λ (y : Item). Some y) gb.item_is;
          same_object = both.0;
          is_declared = gb.there;
          left = gb.left ∙ ap (λ (w : Row). Some w) both.1;
          earlier = edge.0;
          fits = edge.1;
        }

    -- to an item, by what its rows take
    item_step : (p : Point) (c b u j : ℕ) (y : Item) → At s r gs base p c → item_at r u j ≡ Some y → ItemArc r gs base (first_of r u + j + 1) y c b → Reached s r gs base p b
    item_step p c b u j (items.Change o q f) at_ there (k, low, (row, at_row, arc)) = by (taken_as r o.0 row q f.a) refl arc
      where
        by : (m : Option (ℕ × ℕ)) → taken_as r o.0 row q f.a ≡ m → KeyArc gs base o.0 row (first_of r u + j + 1) m c b → Reached s r gs base p b
        by None as_ arc = absurd arc
        by (Some m) as_ (x, last, from_, to_) =
            let w = taken_from p c b x o.0 row q f.a m at_ last from_ as_ in
            let v = item_valid r u j (items.Change o q f) there in
            let right_ : taken_by_change row f.op f.reply ≡ true = passes (λ z. taken_by_change z f.op f.reply) ROWS k row at_row in
            point_reached p u (j + 1) b (v.0, omega (arith, v.1)) (to_ ∙ omega arith)
            (edge_on s r p (point w.thread w.place) (point u (j + 1)) w.comes (hands w.thread w.place u j (items.Change w.object w.position w.entry) (items.Change o q f) w.there there
            (w.same_object, record { object = w.declared; row = row; declared = w.is_declared; left = w.left; right = right_; later = w.earlier; fits = w.fits })))
    item_step p c b u j (items.Look o l) at_ there (k, low, (row, at_row, arc)) = by (taken_as r o.0 row l.at l.a) refl arc
      where
        by : (m : Option (ℕ × ℕ)) → taken_as r o.0 row l.at l.a ≡ m → KeyArc gs base o.0 row (first_of r u + j + 1) m c b → Reached s r gs base p b
        by None as_ arc = absurd arc
        by (Some m) as_ (x, last, from_, to_) =
            let w = taken_from p c b x o.0 row l.at l.a m at_ last from_ as_ in
            let v = item_valid r u j (items.Look o l) there in
            let right_ : taken_by_look row l.op l.reply ≡ true = passes (λ z. taken_by_look z l.op l.reply) ROWS k row at_row in
            point_reached p u (j + 1) b (v.0, omega (arith, v.1)) (to_ ∙ omega arith)
            (edge_on s r p (point w.thread w.place) (point u (j + 1)) w.comes (hands w.thread w.place u j (items.Change w.object w.position w.entry) (items.Look o l) w.there there
            (w.same_object, record { object = w.declared; row = row; declared = w.is_declared; left = w.left; right = right_; later = w.earlier; fits = w.fits })))
    item_step p c b u j (items.Control d) at_ there arc = absurd arc
    item_step p c b u j (items.Said d) at_ there arc = absurd arc

    step_on : (p : Point) (c b : ℕ) → At s r gs base p c → OwnArc r c b ⊎ HandArc r gs base c b → Reached s r gs base p b
    step_on p c b at_ (inl (inl (t, low, (i, within, (from_, to_))))) = next_step p c b t i at_ low within from_ to_
    step_on p c b at_ (inl (inr (i, within, (x, there, arc)))) = main_step p c b i x at_ there arc
    step_on p c b at_ (inr (inl (x, low, inl (h, there, (from_, to_))))) = enter_step p c b x h at_ there from_ to_
    step_on p c b at_ (inr (inl (x, low, inr arc))) = on_step p c b x at_ arc
    step_on p c b at_ (inr (inr (u, low, (j, within, (y, there, arc))))) = item_step p c b u j y at_ there arc

    along : (g : List Node) → ((a b : ℕ) → Arc g a b → OwnArc r a b ⊎ HandArc r gs base a b) → (t i : ℕ) → IsValid r t i → (a b : ℕ) → a ≡ node_of r t i → Path g a b → Reached s r gs base (point t i) b
    along g arcs t i valid a b is (one x y arc) = step_on (point t i) a b (subst (λ (c : ℕ). At s r gs base (point t i) c) (sym is) (at_own t i valid)) (arcs a b arc)
    along g arcs t i valid a b is (more x c y path arc) = step_on (point t i) c b (at_reached s r gs base (point t i) c (along g arcs t i valid a c is path)) (arcs c b arc)

    -- a path between the nodes of two points says that the first reaches the second
    pub path_reaches : (g : List Node) → ((a b : ℕ) → Arc g a b → OwnArc r a b ⊎ HandArc r gs base a b) → (t i u j : ℕ) → IsValid r t i → IsValid r u j → Path g (node_of r t i) (node_of r u j) → Reaches s r (point t i) (point u j)
    path_reaches g arcs t i u j valid other path = (along g arcs t i valid (node_of r t i) (node_of r u j) refl path).to_points u j other refl

-- ---- and back

joined : (g : List Node) (a b c : ℕ) → Path g a b → Path g b c → Path g a c
joined g a b c first (one x y arc) = more a b c first arc
joined g a b c first (more x y z path arc) = more a y c (joined g a b y first path) arc

module _ (s : Scene) (r : Recorded) (gs : List Give) (base : ℕ) (g : List Node) (well : IsRecord s r) (legal : LegalRecord s r) (apt : EachItem r (λ t i x. is_apt r x)) (are : AreGives s r gs) (rising : IsNonDecreasingBy rank_of gs) (small : (k : ℕ) (h : Give) → slice_get gs k ≡ Some h → IsSmall h) (arcs : (a b : ℕ) → OwnArc r a b ⊎ HandArc r gs base a b → Arc g a b) where
  -- from a hub to a later one of its class and key
  through : (x d : ℕ) (h k : Give) (class key : ℕ) → slice_get gs x ≡ Some h → slice_get gs (x + suc d) ≡ Some k → IsOf h class key → IsOf k class key → Path g (base + x) (base + (x + suc d))
  through x zero h k class key at_h at_k of_h of_k =
      let after : slice_get gs (x + 1) ≡ Some k = subst (λ (n : ℕ). slice_get gs n ≡ Some k) (omega arith) at_k in
      let arc : Arc g (base + x) (base + x + 1) = arcs (base + x) (base + x + 1) (inr (inl (x, is_within gs x h at_h, inr (h, at_h, (k, after, (of_k.0 ∙ sym of_h.0, of_k.1 ∙ sym of_h.1), (refl, refl)))))) in
      subst (λ (n : ℕ). Path g (base + x) n) (omega arith) (one (base + x) (base + x + 1) arc)
  through x (suc d) h k class key at_h at_k of_h of_k =
      let low : x + 1 < length gs = let w = is_within gs (x + suc (suc d)) k at_k in omega arith in
      let j = there_is gs (x + 1) low in
      let of_j : IsOf j.0 class key = between gs x (x + 1) (x + suc (suc d)) h j.0 k class key rising (small x h at_h) (small (x + 1) j.0 j.1) (small (x + suc (suc d)) k at_k) (omega arith) (omega arith) at_h j.1 at_k of_h of_k in
      let arc : Arc g (base + x) (base + x + 1) = arcs (base + x) (base + x + 1) (inr (inl (x, is_within gs x h at_h, inr (h, at_h, (j.0, j.1, (of_j.0 ∙ sym of_h.0, of_j.1 ∙ sym of_h.1), (refl, refl)))))) in
      let here : Path g (base + x) (base + (x + 1)) = subst (λ (n : ℕ). Path g (base + x) n) (omega arith) (one (base + x) (base + x + 1) arc) in
      let further : x + 1 + suc d ≡ x + suc (suc d) = omega arith in
      let rest : Path g (base + (x + 1)) (base + (x + suc (suc d))) = subst (λ (n : ℕ). Path g (base + (x + 1)) (base + n)) further (through (x + 1) d j.0 k class key j.1 (subst (λ (n : ℕ). slice_get gs n ≡ Some k) (sym further) at_k) of_j of_k) in
      joined g (base + x) (base + (x + 1)) (base + (x + suc (suc d))) here rest

  -- from what is given to a taker that takes it
  handed : (k : ℕ) (h : Give) (class key bound target : ℕ) → slice_get gs k ≡ Some h → IsOf h class key → h.place < bound → ((x : ℕ) → IsLast gs class key bound x → Arc g (base + x) target) → Path g h.node target
  handed k h class key bound target at_h of_h less takes =
      let w = last_of_group gs class key bound k h at_h of_h less in
      let enter : Arc g h.node (base + k) = arcs h.node (base + k) (inr (inl (k, is_within gs k h at_h, inl (h, at_h, (refl, refl))))) in
      by w.0 w.1 w.2 (dec_eq k w.0) (one h.node (base + k) enter)
    where
      by : (x : ℕ) → IsLast gs class key bound x → k ≤ x → (k ≡ x) ⊎ (k ≡ x → ⊥) → Path g h.node (base + k) → Path g h.node target
      by x last le (inl same) enter = more h.node (base + k) target enter (subst (λ (n : ℕ). Arc g (base + n) target) (sym same) (takes x last))
      by x last le (inr other) enter =
          let gap : k + suc (x - k - 1) ≡ x = omega (arith, le, other) in
          let path : Path g (base + k) (base + (k + suc (x - k - 1))) = through k (x - k - 1) h last.give class key at_h (subst (λ (n : ℕ). slice_get gs n ≡ Some last.give) (sym gap) last.there) of_h last.in_group in
          more h.node (base + x) target (joined g h.node (base + k) (base + x) enter (subst (λ (n : ℕ). Path g (base + k) (base + n)) gap path)) (takes x last)

  -- where a row of the table leads from a change to an act
  row_path : (t i : ℕ) (o : ObjectNo) (p : ℕ) (e : Entry) (taken : Row → Bool) (q : ℕ) (a : ℤ) (target : ℕ) → item_at r t i ≡ Some (items.Change o p e) → Hands s r o.0 p e taken q a
      → ((row : Row) (m : ℕ × ℕ) → taken row ≡ true → taken_as r o.0 row q a ≡ Some m → (x : ℕ) → IsLast gs (class_of o.0 row) m.0 m.1 x → Arc g (base + x) target) → Path g (node_of r t i) target
  row_path t i o p e taken q a target there h takes =
      let held : h.row ≡ rows.Arrival → (c k : ℕ) → has_at r o.0 completes c ≡ true → k < c → (has_at r o.0 arrives k ≡ true) ⊎ (has_at r o.0 completes k ≡ true)
      = λ is c k complete less. (let b = arrival_of_barrier (kind_of h.object) e.op (h.left ∙ ap (λ (w : Row). Some w) is) in held_before s r well legal o.0 h.object b.0 h.declared b.1 c k complete less) in
      let complete : h.row ≡ rows.Completion → has_at r o.0 completes p ≡ true
      = λ is. completes_at (completion_completes (kind_of h.object) e.op (h.left ∙ ap (λ (w : Row). Some w) is)) in
      let ends = from_edge r o.0 h.row p q e.a a h.later h.fits complete held in
      let gives = gives_so s r (node_of r t i) o p e h.object h.row (ends.key, ends.place) h.declared h.left ends.left in
      let w = are.of_all t i (items.Change o p e) (give_as o.0 h.row (node_of r t i) (ends.key, ends.place)) there gives in
      handed w.0 (give_as o.0 h.row (node_of r t i) (ends.key, ends.place)) (class_of o.0 h.row) ends.key ends.bound target w.1 (refl, refl) ends.below (λ x last. takes h.row (ends.key, ends.bound) h.right ends.right x last)
    where
      completes_at : completes e.op ≡ true → has_at r o.0 completes p ≡ true
      completes_at is =
          let c = item_change r o.0 t i o p e refl there in
          let y : completes c.0.entry.op ≡ true = ap (λ (f : Entry). completes f.op) c.3 ∙ is in
          let z : (c.0.position == p) ≡ true = eq-eqb c.0.position p c.2 in
          in_any (λ (d : Placed). completes d.entry.op && (d.position == p)) (changes_of r o.0) c.0 c.1 (rw y z)

  -- the arc to an act
  takes_row : (u j k : ℕ) (row : Row) (o : ObjectNo) (rs : List Row) (q : ℕ) (a : ℤ) (m : ℕ × ℕ) (x target : ℕ) → slice_get rs k ≡ Some row → taken_as r o.0 row q a ≡ Some m → IsLast gs (class_of o.0 row) m.0 m.1 x → RowsArc r gs base o.0 rs q a target (base + x) target
  takes_row u j k row o rs q a m x target at_row as_ last = (k, is_within rs k row at_row, (row, at_row, subst (λ (n : Option (ℕ × ℕ)). KeyArc gs base o.0 row target n (base + x) target) (sym as_) (x, last, refl, refl)))

  sync_path : (t i u j : ℕ) (x y : Item) → item_at r t i ≡ Some x → item_at r u j ≡ Some y → Synchronizes s r x y → Path g (node_of r t i) (node_of r u (j + 1))
  sync_path t i u j (items.Change o p e) (items.Change o2 q f) at_x at_y (same, h) =
      let v = item_valid r u j (items.Change o2 q f) at_y in
      let to_ : node_of r u (j + 1) ≡ first_of r u + j + 1 = omega arith in
      row_path t i o p e (λ row. taken_by_change row f.op f.reply) q f.a (node_of r u (j + 1)) at_x h
      (λ row m right as_ k last. let w = passing (λ z. taken_by_change z f.op f.reply) ROWS row (row_in row) right in
      arcs (base + k) (node_of r u (j + 1)) (inr (inr (
        u,
        v.0,
        (
          j,
          v.1,
          (
            items.Change o2 q f,
            at_y,
            subst (λ (n : ℕ). ItemArc r gs base n (items.Change o2 q f) (base + k) (node_of r u (j + 1))) to_
                (subst (λ (n : ℕ). RowsArc r gs base n (filter (λ z. taken_by_change z f.op f.reply) ROWS) q f.a (node_of r u (j + 1)) (base + k) (node_of r u (j + 1))) same (takes_row u j w.0 row o (filter (λ z. taken_by_change z f.op f.reply) ROWS) q f.a m k (node_of r u (j + 1)) w.1 as_ last)),
          ),
        ),
      ))))
  sync_path t i u j (items.Change o p e) (items.Look o2 l) at_x at_y (same, h) =
      let v = item_valid r u j (items.Look o2 l) at_y in
      let to_ : node_of r u (j + 1) ≡ first_of r u + j + 1 = omega arith in
      row_path t i o p e (λ row. taken_by_look row l.op l.reply) l.at l.a (node_of r u (j + 1)) at_x h
      (λ row m right as_ k last. let w = passing (λ z. taken_by_look z l.op l.reply) ROWS row (row_in row) right in
      arcs (base + k) (node_of r u (j + 1)) (inr (inr (
        u,
        v.0,
        (
          j,
          v.1,
          (
            items.Look o2 l,
            at_y,
            subst (λ (n : ℕ). ItemArc r gs base n (items.Look o2 l) (base + k) (node_of r u (j + 1))) to_
                (subst (λ (n : ℕ). RowsArc r gs base n (filter (λ z. taken_by_look z l.op l.reply) ROWS) l.at l.a (node_of r u (j + 1)) (base + k) (node_of r u (j + 1))) same (takes_row u j w.0 row o (filter (λ z. taken_by_look z l.op l.reply) ROWS) l.at l.a m k (node_of r u (j + 1)) w.1 as_ last)),
          ),
        ),
      ))))
  sync_path t i u j (items.Change o p e) (items.Control c) at_x at_y sync = absurd sync
  sync_path t i u j (items.Change o p e) (items.Said c) at_x at_y sync = absurd sync
  sync_path t i u j (items.Look o l) y at_x at_y sync = absurd sync
  sync_path t i u j (items.Control c) y at_x at_y sync = absurd sync
  sync_path t i u j (items.Said c) y at_x at_y sync = absurd sync

  start_arc : (i t : ℕ) (x : Item) → item_at r 0 i ≡ Some x → starts t x ≡ true → MainArc r (node_of r 0 i) x (node_of r 0 i) (node_of r t 0)
  start_arc i t (items.Control (controls.Start u ok)) there is = by ok is
    where
      by : (b : Bool) → b && (u.0 == t) ≡ true → StartArc r (node_of r 0 i) u.0 b (node_of r 0 i) (node_of r t 0)
      by true e = let same : u.0 ≡ t = eqb-true u.0 t e in (refl, ap (λ (n : ℕ). first_of r n + 0) (sym same) ∙ omega arith)
      by false e = cc
  start_arc i t (items.Control (controls.Launch u ok)) there is = by ok is
    where
      by : (b : Bool) → b && (u.0 == t) ≡ true → StartArc r (node_of r 0 i) u.0 b (node_of r 0 i) (node_of r t 0)
      by true e = let same : u.0 ≡ t = eqb-true u.0 t e in (refl, ap (λ (n : ℕ). first_of r n + 0) (sym same) ∙ omega arith)
      by false e = cc
  start_arc i t (items.Control (controls.Join u)) there is = cc
  start_arc i t (items.Change o p e) there is = cc
  start_arc i t (items.Look o l) there is = cc
  start_arc i t (items.Said c) there is = cc

  edge_path : (p q : Point) → Edge s r p q → Path g (node_of r p.thread p.item) (node_of r q.thread q.item)
  edge_path p q (next t i low) =
      let listed_ : t < length r.lists = let x = there_is (list_of r t) i low in (item_valid r t i x.0 x.1).0 in
      one (node_of r t i) (node_of r t (i + 1)) (arcs (node_of r t i) (node_of r t (i + 1)) (inl (inl (t, listed_, (i, low, (refl, omega arith))))))
  edge_path p q (begins t i x there is) =
      let v = item_valid r 0 i x there in
      one (node_of r 0 i) (node_of r t 0) (arcs (node_of r 0 i) (node_of r t 0) (inl (inr (i, v.1, (x, there, start_arc i t x there is)))))
  edge_path p q (joins t i there) =
      let v = item_valid r 0 i (items.Control (controls.Join t)) there in
      one (node_of r t.0 (length (list_of r t.0))) (node_of r 0 (i + 1)) (arcs (node_of r t.0 (length (list_of r t.0))) (node_of r 0 (i + 1)) (inl (inr (i, v.1, (items.Control (controls.Join t), there, (refl, omega arith))))))
  edge_path p q (hands t i u j x y at_x at_y sync) = sync_path t i u j x y at_x at_y sync

  -- where a point reaches another there is a path between their nodes
  pub reach_path : (p q : Point) → Reaches s r p q → Path g (node_of r p.thread p.item) (node_of r q.thread q.item)
  reach_path p q (one_edge a b edge) = edge_path p q edge
  reach_path p q (more_edges a b c reach edge) = joined g (node_of r p.thread p.item) (node_of r b.thread b.item) (node_of r q.thread q.item) (reach_path p b reach) (edge_path b q edge)
