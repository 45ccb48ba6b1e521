-- What an order tells of two points.
use Rattle.std.proofs.Common.{◌≡◌, ◌∙◌, ℕ, zero, suc, ◌+◌, ◌<◌, ◌≤◌, List, [], ◌∷◌, length, slice_get, get_or, Option, Some, None, sym, ap, subst, arith}
use Rattle.cx_scene.specs.Scene.{Scene}
use Rattle.cx_items.specs.declared.item.Item.{Item}
use Rattle.cx_history.specs.Histories.{Recorded}
use Rattle.cx_history.specs.Legal.{EachItem, LegalRecord}
use Rattle.cx_history.specs.Follows.{Follows}
use Rattle.cx_order.specs.declared.clocks.Clock.{Clock}
use Rattle.cx_order.specs.Points.{point, IsPoint}
use Rattle.cx_order.specs.Edges.{Reaches, Tells}
use Rattle.cx_order.specs.Arcs.{AreFirsts, first_of}
use Rattle.cx_history.specs.IsRecord.{IsRecord}
use Rattle.cx_history.specs.Views.{recorded_of}
use Rattle.cx_order.specs.declared.parts.Parts.{Parts}
use Rattle.cx_order.specs.Counts.{IsTallyOf}
use Rattle.cx_order.specs.Parts.{IsParts, is_apt}
use Rattle.cx_order.proofs.Apt.{places_small, controls_apt}
use Rattle.cx_order.specs.Order.{past_at}
use Rattle.cx_graph.specs.declared.graph.Node.{Node}
use Rattle.cx_order.specs.Gives.{AreGives, AreSmall}
use Rattle.cx_order.specs.Graphs.{IsGraphOf, AreClocks}
use Rattle.cx_order.proofs.Clocked.{AreRight, are_right, the_clock, tells_so, point_valid}

pub order_tells : (s : Scene) (r : Recorded) (clocks : List Clock) (right : AreRight s r clocks) (count : length clocks ≡ length r.lists) (follows : Follows s r) (apt : EachItem r (λ t i x. is_apt r x)) (firsts : List ℕ) → AreFirsts r firsts → (t i u j : ℕ) → IsPoint r (point t i) → IsPoint r (point u j) → Tells (past_at (slice_get firsts u) (slice_get clocks t) i j) (Reaches s r (point t i) (point u j))
order_tells s r clocks right count follows apt firsts are t i u j p q =
    let v = point_valid r t i p in
    let w = point_valid r u j q in
    let c = the_clock s r clocks right count follows apt t v.0 in
    let first = are.each u (omega (arith, w.0)) in
    subst (λ (m : Option ℕ). Tells (past_at m (slice_get clocks t) i j) (Reaches s r (point t i) (point u j))) (sym first)
    (subst (λ (m : Option Clock). Tells (past_at (Some (first_of r u)) m i j) (Reaches s r (point t i) (point u j))) (sym c.1) (tells_so s r clocks right count follows apt t i u j c.0 c.1 v w))

-- what the arcs of a well-formed record are made from
pub are_parts : (s : Scene) (p : Parts) → IsRecord s (recorded_of p.record.now) → IsTallyOf (recorded_of p.record.now) p.tally.now → AreFirsts (recorded_of p.record.now) p.firsts.now → p.base ≡ first_of (recorded_of p.record.now) (length (recorded_of p.record.now).lists) → IsParts p
are_parts s p well tally firsts base = record {
  tally = tally;
  small = places_small s (recorded_of p.record.now) well;
  controls_apt = controls_apt s (recorded_of p.record.now) well;
  firsts = firsts;
  base = base;
}

-- the node behind all points, as it's read
pub base_is : (r : Recorded) (firsts : List ℕ) (n d : ℕ) → AreFirsts r firsts → n ≡ length r.lists → d ≡ get_or firsts n d → d ≡ first_of r (length r.lists)
base_is r firsts n d are same read =
    let there = are.each n (omega (arith, same)) in
    read ∙ get_or-some firsts n d (first_of r n) there ∙ ap (first_of r) same
  where
    get_or-some : (xs : List ℕ) (i d v : ℕ) → slice_get xs i ≡ Some v → get_or xs i d ≡ v
    get_or-some [] i d v e = cc
    get_or-some (x ∷ xs) zero d v e = cc
    get_or-some (x ∷ xs) (suc i) d v e = get_or-some xs i d v e

-- the clocks of a graph of the record's edges are right
pub right_by : (s : Scene) (p : Parts) (g : List Node) (clocks : List Clock) → IsGraphOf p g → IsParts p → AreClocks (recorded_of p.record.now) g clocks → IsRecord s (recorded_of p.record.now) → LegalRecord s (recorded_of p.record.now) → AreGives s (recorded_of p.record.now) p.hubs.now.gives.items → AreSmall p.hubs.now.gives.items → AreRight s (recorded_of p.record.now) clocks
right_by s p g clocks of is are well legal gives small = are_right s p g clocks is of are well legal gives small
