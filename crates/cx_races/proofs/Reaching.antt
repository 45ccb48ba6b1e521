-- Which accesses of a lane an access is ordered with: those that reach it come first, and behind one that it reaches it reaches all.
use Rattle.std.proofs.Common.{◌≡◌, ◌⊎◌, inl, inr, ℕ, zero, suc, ◌+◌, ◌*◌, ◌-◌, ◌<◌, ◌≤◌, Bool, true, false, List, length, slice_get, Option, Some, sym, ap, ◌∙◌, subst, arith}
use Rattle.std.specs.Prelude.{nat_lt, option_and_then}
use Rattle.std.specs.List.Sorted.{IsNonDecreasingBy}
use Rattle.std.proofs.lemmas.Bool.{lt-ltb}
use Rattle.std.proofs.lemmas.Option.{slice_get_within}
use Rattle.cx_graph.proofs.Numbers.{le_or_lt}
use Rattle.cx_scene.specs.Scene.{Scene}
use Rattle.cx_items.specs.declared.item.Item.{Item}
use Rattle.cx_history.specs.Histories.{Recorded, items_of, list_of}
use Rattle.cx_order.specs.declared.ordered.Order.{Order}
use Rattle.cx_order.specs.Points.{Point, point, IsPoint}
use Rattle.cx_order.specs.Edges.{next, Reaches, more, Tells}
use Rattle.cx_order.specs.Order.{before_in}
use Rattle.cx_order.proofs.Walks.{there_is}
use Rattle.cx_races.specs.declared.access.Access.{Access}
use Rattle.cx_races.specs.Races.{at}
use Rattle.cx_races.specs.Sheets.{lane_of, rank_of, IsSmall, AreSmall, AreOf, NoneOfLane, AreFrom, AreBelow}
use Rattle.cx_races.proofs.Lanes.{ranks_rise, lane_thread}

-- ---- a point that is reached, and those behind it

list_is : (r : Recorded) (t : ℕ) (xs : List Item) → slice_get r.lists t ≡ Some (Some xs) → list_of r t ≡ xs
list_is r t xs e = ap (λ (o : Option (Option (List Item))). items_of (option_and_then (λ y. y) o)) e

on_by : (s : Scene) (r : Recorded) (p : Point) (t i n : ℕ) → Reaches s r p (point t i) → i + n ≤ length (list_of r t) → Reaches s r p (point t (i + n))
on_by s r p t i zero h within = subst (λ (m : ℕ). Reaches s r p (point t m)) (omega arith) h
on_by s r p t i (suc n) h within =
    let so_far = on_by s r p t i n h (omega (arith, within)) in
    subst (λ (m : ℕ). Reaches s r p (point t m)) (omega arith) (more p (point t (i + n)) (point t (i + n + 1)) so_far (next t (i + n) (omega (arith, within))))

reaches_on : (s : Scene) (r : Recorded) (p : Point) (t i j : ℕ) → Reaches s r p (point t i) → i ≤ j → IsPoint r (point t j) → Reaches s r p (point t j)
reaches_on s r p t i j h up is =
    let size = ap (λ (xs : List Item). length xs) (list_is r t is.list is.has_list) in
    subst (λ (m : ℕ). Reaches s r p (point t m)) (omega (arith, up)) (on_by s r p t i (j - i) h (omega (arith, up, is.within, size)))

-- ---- an answer that is yes

says : (b : Bool) (P : Type 0) → Tells b P → b ≡ true → P
says true P t e = t
says false P t e = cc

module _ (s : Scene) (r : Recorded) (o : Order) (a x : Access) (xs : List Access) (count place : ℕ)
    (are : AreOf s r o a xs) (rising : IsNonDecreasingBy rank_of xs) (small : AreSmall xs) (small_x : IsSmall x)
    (reached : (i : ℕ) → before_in o x.thread.0 i a.thread.0 a.point ≡ nat_lt i count)
    (low : AreBelow xs place (lane_of x * 4294967296 + count)) (high : AreFrom xs place (lane_of x * 4294967296 + count))
    (first : (z : Access) → slice_get xs place ≡ Some z → lane_of z ≡ lane_of x → before_in o a.thread.0 a.point z.thread.0 z.point ≡ true) where
  -- one below the place reaches the access
  below_reaches : (k : ℕ) (y : Access) → slice_get xs k ≡ Some y → lane_of y ≡ lane_of x → k < place → Reaches s r (at y) (at a)
  below_reaches k y there lane under =
      let thread = lane_thread x y small_x (small k y there) lane in
      let less : y.point < count = plain (lane_of y) (lane_of x) y.point count lane (low k y under there) in
      let yes_ : before_in o y.thread.0 y.point a.thread.0 a.point ≡ true = ap (λ (t : ℕ). before_in o t y.point a.thread.0 a.point) thread ∙ reached y.point ∙ lt-ltb y.point count less in
      says (before_in o y.thread.0 y.point a.thread.0 a.point) (Reaches s r (at y) (at a)) (are.order.tells y.thread.0 y.point a.thread.0 a.point (are.points k y there) are.point) yes_
    where
      plain : (l m p c : ℕ) → l ≡ m → l * 4294967296 + p < m * 4294967296 + c → p < c
      plain l m p c same less = omega arith

  -- and the access reaches one that isn't below it
  from_reached : (k : ℕ) (y : Access) → slice_get xs k ≡ Some y → lane_of y ≡ lane_of x → place ≤ k → Reaches s r (at a) (at y)
  from_reached k y there lane past = by (there_is xs place (let w = slice_get_within xs k y there in omega (arith, w, past)))
    where
      between : (l m p q c : ℕ) → p < 4294967296 → l * 4294967296 + p ≤ m * 4294967296 + q → q < 4294967296 → m * 4294967296 + c ≤ l * 4294967296 + p → l ≡ m
      between l m p q c small_p up small_q from = omega arith

      points : (l m p q : ℕ) → l ≡ m → l * 4294967296 + p ≤ m * 4294967296 + q → p ≤ q
      points l m p q same up = omega arith

      by : ((z : Access) × (slice_get xs place ≡ Some z)) → Reaches s r (at a) (at y)
      by (z, here) =
          let up = ranks_rise xs place k z y rising past here there in
          let small_z = small place z here in
          let small_y = small k y there in
          let from : lane_of y * 4294967296 + count ≤ rank_of z = subst (λ (l : ℕ). l * 4294967296 + count ≤ rank_of z) (sym lane) (high place z (omega arith) here) in
          let same : lane_of z ≡ lane_of y = between (lane_of z) (lane_of y) z.point y.point count small_z.point up small_y.point from in
          let thread : z.thread.0 ≡ y.thread.0 = lane_thread y z small_y small_z same in
          let reached_z = says (before_in o a.thread.0 a.point z.thread.0 z.point) (Reaches s r (at a) (at z)) (are.order.tells a.thread.0 a.point z.thread.0 z.point are.point (are.points place z here)) (first z here (same ∙ lane)) in
          let at_thread : Reaches s r (at a) (point y.thread.0 z.point) = subst (λ (t : ℕ). Reaches s r (at a) (point t z.point)) thread reached_z in
          reaches_on s r (at a) y.thread.0 z.point y.point at_thread (points (lane_of z) (lane_of y) z.point y.point same up) (are.points k y there)

  pub lane_ordered : NoneOfLane s r xs a x
  lane_ordered k y there lane race = by (le_or_lt place k)
    where
      by : (place ≤ k) ⊎ (k < place) → ⊥
      by (inl past) = race.unordered.0 (from_reached k y there lane past)
      by (inr under) = race.unordered.1 (below_reaches k y there lane under)
