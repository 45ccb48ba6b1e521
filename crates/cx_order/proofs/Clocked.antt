-- The clocks of a record's lists.
use Rattle.std.proofs.Common.{◌≡◌, ◌⊎◌, inl, inr, ℕ, zero, suc, ◌+◌, ◌<◌, ◌≤◌, Bool, true, false, List, [], ◌∷◌, ◌++◌, length, slice_get, Option, Some, None, refl, sym, ap, ◌∙◌, subst, arith, eqb-true, eq-eqb, ◌==◌, ◌||◌, ◌&&◌, not}
use Rattle.std.specs.Prelude.{nat_lt, slice_index, IsTrue, option_and_then}
use Rattle.std.proofs.lemmas.Bool.{ltb-true, ltb-false}
use Rattle.cx_names.specs.declared.ThreadNo.{ThreadNo}
use Rattle.cx_scene.specs.Scene.{Scene}
use Rattle.cx_items.specs.declared.item.Control.TheVariants as controls
use Rattle.cx_items.specs.declared.item.Item.{Item}
use Rattle.cx_items.specs.declared.item.Item.TheVariants as items
use Rattle.cx_history.specs.Histories.{Recorded, items_of, list_of, item_at}
use Rattle.cx_history.specs.IsRecord.{IsRecord}
use Rattle.cx_history.specs.Legal.{LegalRecord, EachItem}
use Rattle.cx_history.specs.Follows.{Follows, starts, any_starts, has_started, list_follows}
use Rattle.cx_history.specs.Views.{recorded_of}
use Rattle.cx_graph.specs.declared.graph.Node.{Node}
use Rattle.cx_graph.specs.Graph.{Path, IsClock}
use Rattle.cx_order.specs.declared.parts.Parts.{Parts}
use Rattle.cx_order.specs.declared.clocks.Clock.{Clock}
use Rattle.cx_order.specs.Points.{Point, point, IsPoint}
use Rattle.cx_order.specs.Edges.{Edge, next, begins, joins, hands, Reaches, one, more, Tells, HasNoCycle, IsBefore, IsFirstCycle}
use Rattle.cx_order.specs.Arcs.{first_of, node_of}
use Rattle.cx_order.specs.Parts.{IsParts, is_apt}
use Rattle.cx_order.specs.Gives.{AreGives, AreSmall}
use Rattle.cx_order.specs.Graphs.{IsGraphOf, values_in, AreClocks, PastIn, IsPast, IsFirstPast, FirstPast}
use Rattle.cx_graph.proofs.Numbers.{dec_eq}
use Rattle.cx_order.proofs.Walks.{some_is, is_within, there_is}
use Rattle.cx_order.proofs.Reduction.{item_valid}
use Rattle.cx_order.proofs.Paths.{IsValid, path_reaches, reach_path}

pushed : (cs : List Clock) (c d : Clock) (t u : ℕ) → length cs ≡ t → slice_get (cs ++ c ∷ []) u ≡ Some d → (slice_get cs u ≡ Some d) ⊎ ((u ≡ t) × (c ≡ d))
pushed [] c d zero zero size at_ = inr (refl, some_is c d at_)
pushed [] c d zero (suc u) size at_ = cc
pushed [] c d (suc t) u size at_ = absurd (omega arith)
pushed (b ∷ cs) c d zero u size at_ = absurd (omega arith)
pushed (b ∷ cs) c d (suc t) zero size at_ = inl at_
pushed (b ∷ cs) c d (suc t) (suc u) size at_ = up (pushed cs c d t u (omega arith) at_)
  where
    up : (slice_get cs u ≡ Some d) ⊎ ((u ≡ t) × (c ≡ d)) → (slice_get cs u ≡ Some d) ⊎ ((suc u ≡ suc t) × (c ≡ d))
    up (inl there) = inl there
    up (inr here) = inr (ap suc here.0, here.1)

-- one clock more
pub clock_more : (r : Recorded) (g : List Node) (cs new : List Clock) (c : Clock) (t : ℕ) → length cs ≡ t → ((u : ℕ) (d : Clock) → slice_get cs u ≡ Some d → IsClock g (first_of r u) (suc (length (list_of r u))) d.values.items) → IsClock g (first_of r t) (suc (length (list_of r t))) c.values.items → new ≡ cs ++ c ∷ [] → (u : ℕ) (d : Clock) → slice_get new u ≡ Some d → IsClock g (first_of r u) (suc (length (list_of r u))) d.values.items
clock_more r g cs new c t size before here put u d at_ = by (pushed cs c d t u size (subst (λ (xs : List Clock). slice_get xs u ≡ Some d) put at_))
  where
    by : (slice_get cs u ≡ Some d) ⊎ ((u ≡ t) × (c ≡ d)) → IsClock g (first_of r u) (suc (length (list_of r u))) d.values.items
    by (inl there) = before u d there
    by (inr (same, is)) = subst (λ (n : ℕ). IsClock g (first_of r n) (suc (length (list_of r n))) d.values.items) (sym same) (subst (λ (e : Clock). IsClock g (first_of r t) (suc (length (list_of r t))) e.values.items) is here)

-- ---- points

pub point_valid : (r : Recorded) (t i : ℕ) → IsPoint r (point t i) → IsValid r t i
point_valid r t i p =
    let same : list_of r t ≡ p.list = ap (λ (m : Option (Option (List Item))). items_of (option_and_then (λ y. y) m)) p.has_list in
    let l : length (list_of r t) ≡ length p.list = ap (λ (xs : List Item). length xs) same in
    (is_within r.lists t (Some p.list) p.has_list, omega (arith, p.within, l))

item_point : (r : Recorded) (t i : ℕ) (x : Item) → item_at r t i ≡ Some x → IsPoint r (point t (i + 1))
item_point r t i x there = by (slice_get r.lists t) refl there
  where
    by : (m : Option (Option (List Item))) → slice_get r.lists t ≡ m → slice_get (items_of (option_and_then (λ y. y) m)) i ≡ Some x → IsPoint r (point t (i + 1))
    by None none here = cc
    by (Some None) at_l here = cc
    by (Some (Some xs)) at_l here = record { list = xs; has_list = at_l; within = (let w = is_within xs i x here in omega arith) }

any_started : (t i : ℕ) (xs : List Item) (x : Item) → slice_get xs i ≡ Some x → starts t x ≡ true → any_starts t xs ≡ true
any_started t i [] x at_ is = cc
any_started t zero (y ∷ xs) x at_ is = let e : starts t y ≡ true = ap (starts t) (some_is y x at_) ∙ is in rw e refl
any_started t (suc i) (y ∷ xs) x at_ is = let rest = any_started t i xs x at_ is in rw rest (or_true (starts t y))
  where
    or_true : (b : Bool) → b || true ≡ true
    or_true true = refl
    or_true false = refl

module _ (s : Scene) (r : Recorded) (follows : Follows s r) (apt : EachItem r (λ t i x. is_apt r x)) where
  -- the thread of a start has a list
  started_point : (t i : ℕ) (x : Item) → item_at r 0 i ≡ Some x → starts t x ≡ true → t < length r.lists → IsPoint r (point t 0)
  started_point t i x there is low = by (there_is r.lists t low).0 (there_is r.lists t low).1
    where
      has : has_started r t ≡ true
      has = let a = any_started t i (list_of r 0) x there is in rw a (or_true (t == 0))
        where
          or_true : (b : Bool) → b || true ≡ true
          or_true true = refl
          or_true false = refl

      by : (l : Option (List Item)) → slice_get r.lists t ≡ Some l → IsPoint r (point t 0)
      by None at_l = let f : not (has_started r t) ≡ true = follows.each t None at_l in absurd (wrong (has_started r t) has f)
        where
          wrong : (b : Bool) → b ≡ true → not b ≡ true → ⊥
          wrong true e f = cc
          wrong false e f = cc
      by (Some xs) at_l = record { list = xs; has_list = at_l; within = omega arith }

  starts_within : (t i : ℕ) (x : Item) → item_at r 0 i ≡ Some x → starts t x ≡ true → t < length r.lists
  starts_within t i (items.Control (controls.Start u ok)) there is = by ok is (apt 0 i (items.Control (controls.Start u ok)) there)
    where
      by : (b : Bool) → b && (u.0 == t) ≡ true → u.0 < length r.lists → t < length r.lists
      by true e low = let same = eqb-true u.0 t e in omega (arith, low, same)
      by false e low = cc
  starts_within t i (items.Control (controls.Launch u ok)) there is = by ok is (apt 0 i (items.Control (controls.Launch u ok)) there)
    where
      by : (b : Bool) → b && (u.0 == t) ≡ true → u.0 < length r.lists → t < length r.lists
      by true e low = let same = eqb-true u.0 t e in omega (arith, low, same)
      by false e low = cc
  starts_within t i (items.Control (controls.Join u)) there is = cc
  starts_within t i (items.Change o p e) there is = cc
  starts_within t i (items.Look o l) there is = cc
  starts_within t i (items.Said c) there is = cc

  -- where an edge leads is a point
  edge_point : (p q : Point) → Edge s r p q → IsPoint r q
  edge_point p q (next t i low) = let x = there_is (list_of r t) i low in item_point r t i x.0 x.1
  edge_point p q (begins t i x there is) = started_point t i x there is (starts_within t i x there is)
  edge_point p q (joins t i there) = item_point r 0 i (items.Control (controls.Join t)) there
  edge_point p q (hands t i u j x y at_x at_y sync) = item_point r u j y at_y

  pub reach_point : (p q : Point) → Reaches s r p q → IsPoint r q
  reach_point p q (one a b edge) = edge_point p q edge
  reach_point p q (more a b c reach edge) = edge_point b q edge

-- ---- what the clocks say

pub record AreRight (s : Scene) (r : Recorded) (clocks : List Clock) : Type 0 where
  pub past : (t i u j : ℕ) → IsValid r t i → IsValid r u j → (c : Clock) → slice_get clocks t ≡ Some c → i < slice_index c.values.items (node_of r u j) → Reaches s r (point t i) (point u j)
  pub reached : (t i u j : ℕ) → IsValid r t i → IsValid r u j → (c : Clock) → slice_get clocks t ≡ Some c → Reaches s r (point t i) (point u j) → i < slice_index c.values.items (node_of r u j)

pub are_right : (s : Scene) (p : Parts) (g : List Node) (clocks : List Clock) → IsParts p → IsGraphOf p g → AreClocks (recorded_of p.record.now) g clocks → IsRecord s (recorded_of p.record.now) → LegalRecord s (recorded_of p.record.now) → AreGives s (recorded_of p.record.now) p.hubs.now.gives.items → AreSmall p.hubs.now.gives.items → AreRight s (recorded_of p.record.now) clocks
are_right s p g clocks is of are well legal gives small = record {
  past = λ t i u j valid other c there less. path_reaches s (recorded_of p.record.now) p.hubs.now.gives.items p.base is.base is.controls_apt gives p.hubs.now.rising g of.arcs t i u j valid other ((are.each t c there).reached i (node_of (recorded_of p.record.now) u j) (omega (arith, valid.1)) less);
  reached = λ t i u j valid other c there reach. (are.each t c there).reaches i (node_of (recorded_of p.record.now) u j) (omega (arith, valid.1)) (reach_path s (recorded_of p.record.now) p.hubs.now.gives.items p.base g well legal is.controls_apt gives p.hubs.now.rising small of.all (point t i) (point u j) reach);
}

module _ (s : Scene) (r : Recorded) (clocks : List Clock) (right : AreRight s r clocks) (count : length clocks ≡ length r.lists) (follows : Follows s r) (apt : EachItem r (λ t i x. is_apt r x)) where
  pub the_clock : (t : ℕ) → t < length r.lists → (c : Clock) × (slice_get clocks t ≡ Some c)
  the_clock t low = there_is clocks t (omega (arith, low, count))

  -- a point that reaches itself is before itself
  own_past : (t i : ℕ) → Reaches s r (point t i) (point t i) → IsPast r clocks t i
  own_past t i reach =
      let valid = point_valid r t i (reach_point s r follows apt (point t i) (point t i) reach) in
      let c = the_clock t valid.0 in
      let less = right.reached t i t i valid valid c.0 c.1 reach in
      (omega (arith, valid.1), subst (λ (m : Option Clock). i < slice_index (values_in m) (node_of r t i)) (sym c.1) less)

  pub no_cycle : FirstPast r clocks None → HasNoCycle s r
  no_cycle none p reach =
      let valid = point_valid r p.thread p.item (reach_point s r follows apt p p reach) in
      none p.thread p.item valid.0 (own_past p.thread p.item reach)

  pub first_cycle : (t i : ℕ) → IsFirstPast r clocks t i → IsFirstCycle s r (point t i)
  first_cycle t i first =
      let valid : IsValid r t i = (first.is_list, omega (arith, first.is_past.0)) in
      let c = the_clock t first.is_list in
      let less : i < slice_index c.0.values.items (node_of r t i) = subst (λ (m : Option Clock). i < slice_index (values_in m) (node_of r t i)) c.1 first.is_past.1 in
      let reach = right.past t i t i valid valid c.0 c.1 less in
      record {
        is_point = reach_point s r follows apt (point t i) (point t i) reach;
        reaches_itself = reach;
        is_least = λ q before loop_. least q before loop_;
      }
    where
      least : (q : Point) → IsBefore q (point t i) → Reaches s r q q → ⊥
      least q (inl less) loop_ = first.lists_before q.thread q.item less (own_past q.thread q.item loop_)
      least q (inr (same, less)) loop_ = first.before_it q.item less (subst (λ (n : ℕ). IsPast r clocks n q.item) same (own_past q.thread q.item loop_))

  pub tells_so : (t i u j : ℕ) (c : Clock) → slice_get clocks t ≡ Some c → IsValid r t i → IsValid r u j → Tells (nat_lt i (slice_index c.values.items (first_of r u + j))) (Reaches s r (point t i) (point u j))
  tells_so t i u j c there valid other = by (nat_lt i (slice_index c.values.items (node_of r u j))) refl
    where
      by : (b : Bool) → nat_lt i (slice_index c.values.items (node_of r u j)) ≡ b → Tells b (Reaches s r (point t i) (point u j))
      by true e = right.past t i u j valid other c there (ltb-true i (slice_index c.values.items (node_of r u j)) e)
      by false e = λ reach. (let less = right.reached t i u j valid other c there reach in let le = ltb-false i (slice_index c.values.items (node_of r u j)) e in omega arith)

-- ---- the first of them

-- one node more that isn't before itself
pub none_more : (values : List ℕ) (first i : ℕ) → ((j : ℕ) → j < i → PastIn values first j → ⊥) → nat_lt i (slice_index values (first + i)) ≡ false → (j : ℕ) → j < i + 1 → PastIn values first j → ⊥
none_more values first i before fails j low past = by (dec_eq j i)
  where
    by : (j ≡ i) ⊎ (j ≡ i → ⊥) → ⊥
    by (inl same) =
        let le = ltb-false i (slice_index values (first + i)) fails in
        let e : slice_index values (first + j) ≡ slice_index values (first + i) = ap (λ (n : ℕ). slice_index values (first + n)) same in
        omega (arith, le, e, same, past)
    by (inr other) = before j (omega (arith, low, other)) past

-- one list more without such a point
pub none_of_more : (r : Recorded) (clocks : List Clock) (t first count : ℕ) (c : Clock) → slice_get clocks t ≡ Some c → first ≡ first_of r t → count ≡ suc (length (list_of r t)) → ((u j : ℕ) → u < t → IsPast r clocks u j → ⊥) → ((j : ℕ) → j < count → PastIn c.values.items first j → ⊥) → (u j : ℕ) → u < t + 1 → IsPast r clocks u j → ⊥
none_of_more r clocks t first count c there is_first is_count before none u j low past = by (dec_eq u t)
  where
    by : (u ≡ t) ⊎ (u ≡ t → ⊥) → ⊥
    by (inl same) =
        let here : IsPast r clocks t j = subst (λ (n : ℕ). IsPast r clocks n j) same past in
        let value : PastIn c.values.items (first_of r t) j = subst (λ (m : Option Clock). PastIn (values_in m) (first_of r t) j) there here.1 in
        none j (omega (arith, here.0, is_count)) (subst (λ (n : ℕ). PastIn c.values.items n j) (sym is_first) value)
    by (inr other) = before u j (omega (arith, low, other)) past

-- the first such list, and its first such point
pub first_is : (r : Recorded) (clocks : List Clock) (t first count i : ℕ) (c : Clock) → slice_get clocks t ≡ Some c → first ≡ first_of r t → count ≡ suc (length (list_of r t)) → t < length r.lists → ((u j : ℕ) → u < t → IsPast r clocks u j → ⊥) → i < count → PastIn c.values.items first i → ((j : ℕ) → j < i → PastIn c.values.items first j → ⊥) → IsFirstPast r clocks t i
first_is r clocks t first count i c there is_first is_count low before within past earlier = record {
  is_list = low;
  is_past = (omega (arith, within, is_count), subst (λ (m : Option Clock). PastIn (values_in m) (first_of r t) i) (sym there) (subst (λ (n : ℕ). PastIn c.values.items n i) is_first past));
  before_it = λ j less p. earlier j less (subst (λ (n : ℕ). PastIn c.values.items n j) (sym is_first) (subst (λ (m : Option Clock). PastIn (values_in m) (first_of r t) j) there p.1));
  lists_before = before;
}
