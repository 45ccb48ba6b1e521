-- The graph of a record's edges: its arcs, and that it is one.
use Rattle.std.proofs.Common.{◌≡◌, ◌⊎◌, inl, inr, ℕ, zero, suc, ◌+◌, ◌^◌, ◌<◌, ◌≤◌, Bool, true, false, List, [], ◌∷◌, length, slice_get, Option, Some, None, refl, sym, ap, ◌∙◌, subst, arith}
use Rattle.std.specs.List.{Contains}
use Rattle.cx_names.specs.declared.ThreadNo.{ThreadNo}
use Rattle.cx_items.specs.declared.item.Control.{Control}
use Rattle.cx_items.specs.declared.item.Control.TheVariants as controls
use Rattle.cx_items.specs.declared.item.Item.{Item}
use Rattle.cx_items.specs.declared.item.Item.TheVariants as items
use Rattle.cx_history.specs.Histories.{Recorded, item_at, list_of}
use Rattle.cx_history.specs.Views.{recorded_of}
use Rattle.cx_graph.specs.declared.give.Give.{Give}
use Rattle.cx_graph.specs.declared.graph.Node.{Node}
use Rattle.cx_graph.specs.Graph.{next_of, Arc, Adds, ArcOf, IsGraph, IsChain}
use Rattle.cx_graph.specs.Hubs.{HubArcs}
use Rattle.cx_order.specs.declared.row.Row.{Row}
use Rattle.cx_order.specs.declared.parts.Parts.{Parts}
use Rattle.cx_order.specs.Arcs.{first_of, node_of, taken_as, NextArc, OneMainArc, MainArc, StartArc, KeyArc, RowsArc, ItemArc, ListArc, OwnArc, HandArc}
use Rattle.cx_order.specs.Parts.{IsParts, HasRoom, is_apt}
use Rattle.cx_order.specs.Graphs.{IsGraphOf}
use Rattle.cx_order.proofs.Walks.{is_within}
use Rattle.cx_order.proofs.Nodes.{first_more, first_up, node_within}
use Rattle.cx_order.proofs.Reduction.{item_valid}

nothing_in : (x : ℕ) → Contains [] x → ⊥
nothing_in x (k, low, at_) = omega arith

module _ (p : Parts) (g0 g1 g2 g3 g4 : List Node) where
  -- all arcs are added to a graph without any
  pub all_added : ((a : ℕ) → next_of g0 a ≡ []) → Adds g0 g1 (ArcOf (NextArc (recorded_of p.record.now)) (length (recorded_of p.record.now).lists)) → Adds g1 g2 (ArcOf (OneMainArc (recorded_of p.record.now)) (length (list_of (recorded_of p.record.now) 0)))
      → Adds g2 g3 (ArcOf (HubArcs p.hubs.now.gives.items p.base) (length p.hubs.now.gives.items)) → Adds g3 g4 (ArcOf (ListArc (recorded_of p.record.now) p.hubs.now.gives.items p.base) (length (recorded_of p.record.now).lists)) → HasRoom p g0 → IsGraphOf p g4
  all_added none a1 a2 a3 a4 room = record {
    room = record { within = omega (arith, room.within, a1.count, a2.count, a3.count, a4.count); small = omega (arith, room.small, a1.count, a2.count, a3.count, a4.count) };
    arcs = λ a b arc. of4 a b (a4.only a b arc);
    all = λ a b arc. into_ a b arc;
  }
    where
      of1 : (a b : ℕ) → Arc g0 a b ⊎ ArcOf (NextArc (recorded_of p.record.now)) (length (recorded_of p.record.now).lists) a b → OwnArc (recorded_of p.record.now) a b ⊎ HandArc (recorded_of p.record.now) p.hubs.now.gives.items p.base a b
      of1 a b (inl arc) = absurd (nothing_in b (subst (λ (ns : List ℕ). Contains ns b) (none a) arc))
      of1 a b (inr arc) = inl (inl arc)

      of2 : (a b : ℕ) → Arc g1 a b ⊎ ArcOf (OneMainArc (recorded_of p.record.now)) (length (list_of (recorded_of p.record.now) 0)) a b → OwnArc (recorded_of p.record.now) a b ⊎ HandArc (recorded_of p.record.now) p.hubs.now.gives.items p.base a b
      of2 a b (inl arc) = of1 a b (a1.only a b arc)
      of2 a b (inr arc) = inl (inr arc)

      of3 : (a b : ℕ) → Arc g2 a b ⊎ ArcOf (HubArcs p.hubs.now.gives.items p.base) (length p.hubs.now.gives.items) a b → OwnArc (recorded_of p.record.now) a b ⊎ HandArc (recorded_of p.record.now) p.hubs.now.gives.items p.base a b
      of3 a b (inl arc) = of2 a b (a2.only a b arc)
      of3 a b (inr arc) = inr (inl arc)

      of4 : (a b : ℕ) → Arc g3 a b ⊎ ArcOf (ListArc (recorded_of p.record.now) p.hubs.now.gives.items p.base) (length (recorded_of p.record.now).lists) a b → OwnArc (recorded_of p.record.now) a b ⊎ HandArc (recorded_of p.record.now) p.hubs.now.gives.items p.base a b
      of4 a b (inl arc) = of3 a b (a3.only a b arc)
      of4 a b (inr arc) = inr (inr arc)

      into_ : (a b : ℕ) → OwnArc (recorded_of p.record.now) a b ⊎ HandArc (recorded_of p.record.now) p.hubs.now.gives.items p.base a b → Arc g4 a b
      into_ a b (inl (inl arc)) = a4.kept a b (a3.kept a b (a2.kept a b (a1.added a b arc)))
      into_ a b (inl (inr arc)) = a4.kept a b (a3.kept a b (a2.added a b arc))
      into_ a b (inr (inl arc)) = a4.kept a b (a3.added a b arc)
      into_ a b (inr (inr arc)) = a4.added a b arc

module _ (p : Parts) (g : List Node) (is : IsParts p) (of : IsGraphOf p g) where
  point_low : (t i : ℕ) → t < length (recorded_of p.record.now).lists → i ≤ length (list_of (recorded_of p.record.now) t) → node_of (recorded_of p.record.now) t i < length g
  point_low t i low within = let w = node_within (recorded_of p.record.now) t i low within in omega (arith, w, is.base, of.room.within)

  start_low : (node t b a : ℕ) (ok : Bool) → t < length (recorded_of p.record.now).lists → StartArc (recorded_of p.record.now) node t ok a b → b < length g
  start_low node t b a true low arc = let w = point_low t 0 low (omega arith) in let e = arc.1 in omega (arith, w, e)
  start_low node t b a false low arc = absurd arc

  main_low : (i a b : ℕ) (x : Item) → item_at (recorded_of p.record.now) 0 i ≡ Some x → MainArc (recorded_of p.record.now) (node_of (recorded_of p.record.now) 0 i) x a b → b < length g
  main_low i a b (items.Control (controls.Start t ok)) there arc = start_low (node_of (recorded_of p.record.now) 0 i) t.0 b a ok (is.controls_apt 0 i (items.Control (controls.Start t ok)) there) arc
  main_low i a b (items.Control (controls.Launch t ok)) there arc = start_low (node_of (recorded_of p.record.now) 0 i) t.0 b a ok (is.controls_apt 0 i (items.Control (controls.Launch t ok)) there) arc
  main_low i a b (items.Control (controls.Join t)) there arc =
      let v = item_valid (recorded_of p.record.now) 0 i (items.Control (controls.Join t)) there in
      let w = point_low 0 (i + 1) v.0 (omega (arith, v.1)) in
      let e = arc.1 in
      omega (arith, w, e)
  main_low i a b (items.Change o q e) there arc = absurd arc
  main_low i a b (items.Look o l) there arc = absurd arc
  main_low i a b (items.Said q) there arc = absurd arc

  -- an arc to an item leads to the point behind it
  item_target : (target a b : ℕ) (x : Item) → ItemArc (recorded_of p.record.now) p.hubs.now.gives.items p.base target x a b → b ≡ target
  item_target target a b (items.Change o q f) (k, low, (row, at_row, arc)) = by row (taken_as (recorded_of p.record.now) o.0 row q f.a) arc
    where
      by : (row : Row) (m : Option (ℕ × ℕ)) → KeyArc p.hubs.now.gives.items p.base o.0 row target m a b → b ≡ target
      by row None arc = absurd arc
      by row (Some m) (x, last, from_, to_) = to_
  item_target target a b (items.Look o l) (k, low, (row, at_row, arc)) = by row (taken_as (recorded_of p.record.now) o.0 row l.at l.a) arc
    where
      by : (row : Row) (m : Option (ℕ × ℕ)) → KeyArc p.hubs.now.gives.items p.base o.0 row target m a b → b ≡ target
      by row None arc = absurd arc
      by row (Some m) (x, last, from_, to_) = to_
  item_target target a b (items.Control c) arc = absurd arc
  item_target target a b (items.Said c) arc = absurd arc

  arc_low : (a b : ℕ) → OwnArc (recorded_of p.record.now) a b ⊎ HandArc (recorded_of p.record.now) p.hubs.now.gives.items p.base a b → b < length g
  arc_low a b (inl (inl (t, low, (i, within, (from_, to_))))) = let w = point_low t (i + 1) low (omega arith) in omega (arith, w, to_)
  arc_low a b (inl (inr (i, within, (x, there, arc)))) = main_low i a b x there arc
  arc_low a b (inr (inl (x, low, inl (h, there, (from_, to_))))) = let room = of.room.within in omega (arith, low, to_, room)
  arc_low a b (inr (inl (x, low, inr (h, there, (k, at_next, alike, (from_, to_)))))) = let w = is_within p.hubs.now.gives.items (x + 1) k at_next in let room = of.room.within in omega (arith, w, to_, room)
  arc_low a b (inr (inr (t, low, (i, within, (x, there, arc))))) =
      let e = item_target (first_of (recorded_of p.record.now) t + i + 1) a b x arc in
      let w = point_low t (i + 1) low (omega arith) in
      omega (arith, e, w)

  -- each arc leads to a node
  pub is_graph : IsGraph g
  is_graph a b arc = arc_low a b (of.arcs a b arc)

  -- the points of a list are a chain
  pub is_chain : (t : ℕ) → t < length (recorded_of p.record.now).lists → IsChain g (first_of (recorded_of p.record.now) t) (suc (length (list_of (recorded_of p.record.now) t)))
  is_chain t low = record {
    within = (let m = first_more (recorded_of p.record.now) t low in let u = first_up (recorded_of p.record.now) (t + 1) (length (recorded_of p.record.now).lists) (omega arith) (omega arith) in omega (arith, m, u, is.base, of.room.within));
    arcs = λ i less. of.all (first_of (recorded_of p.record.now) t + i) (first_of (recorded_of p.record.now) t + i + 1) (inl (inl (t, low, (i, omega arith, (refl, refl)))));
  }
