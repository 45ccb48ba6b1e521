-- What a well-formed record has.
use Rattle.std.proofs.Common.{◌≡◌, ◌⊎◌, inl, inr, ℕ, zero, suc, ◌+◌, ◌^◌, ◌<◌, ◌≤◌, ◌==◌, ◌&&◌, Bool, true, false, List, [], ◌∷◌, length, slice_get, Option, Some, None, refl, sym, ap, ◌∙◌, subst, arith}
use Rattle.std.specs.Prelude.{nat_lt, is_some, option_and_then, IsTrue}
use Rattle.std.proofs.lemmas.Bool.{ltb-true}
use Rattle.cx_names.specs.declared.ThreadNo.{ThreadNo}
use Rattle.cx_scene.specs.declared.declared.Thread.{Thread}
use Rattle.cx_scene.specs.declared.declared.Thread.TheVariants as threads
use Rattle.cx_scene.specs.Scene.{Scene, kind_of}
use Rattle.cx_machine.specs.Words.{when}
use Rattle.cx_items.specs.declared.item.Control.{Control}
use Rattle.cx_items.specs.declared.item.Control.TheVariants as controls
use Rattle.cx_items.specs.declared.item.Item.{Item}
use Rattle.cx_items.specs.declared.item.Item.TheVariants as items
use Rattle.cx_history.specs.Histories.{Recorded, item_at, items_of, list_of}
use Rattle.cx_history.specs.IsRecord.{IsRecord, is_item, is_change, is_look, is_control, can_start, can_launch}
use Rattle.cx_history.specs.Legal.{EachItem}
use Rattle.cx_graph.specs.declared.give.Give.{Give}
use Rattle.cx_order.specs.Arcs.{first_of, node_of}
use Rattle.cx_order.specs.Counts.{has_small_place, ArePlacesSmall}
use Rattle.cx_order.specs.Parts.{is_apt, names_list}
use Rattle.cx_order.specs.Gives.{IsOrigin, AreGives}
use Rattle.cx_order.proofs.Walks.{is_within}
use Rattle.cx_order.proofs.Nodes.{node_within}
use Rattle.cx_order.proofs.Reduction.{item_valid, give_node}

middle : (a b c : Bool) → (a && b) && c ≡ true → b ≡ true
middle true true c h = refl
middle true false c h = cc
middle false b c h = cc

small : (s : Scene) (t : ℕ) (x : Item) → is_item s t x ≡ true → has_small_place x
small s t (items.Change o p e) is = let w = ltb-true p (2 ^ 28) (middle (e.by.0 == t) (nat_lt p (2 ^ 28)) (is_some (option_and_then (λ d. when (is_change (length s.threads) (kind_of d) e.op e.a e.b e.reply) d) (slice_get s.objects o.0))) is) in omega (arith, w)
small s t (items.Look o l) is = let w = ltb-true l.at (2 ^ 28) (middle (l.by.0 == t) (nat_lt l.at (2 ^ 28)) (is_some (option_and_then (λ d. when (is_look (kind_of d) l.op l.a l.b l.reply) d) (slice_get s.objects o.0))) is) in omega (arith, w)
small s t (items.Control c) is = tt
small s t (items.Said q) is = tt

pub places_small : (s : Scene) (r : Recorded) → IsRecord s r → ArePlacesSmall r
places_small s r well t i x there = small s t x (well.each t i x there)

started_there : (ts : List Thread) (t : ℕ) → can_start (slice_get ts t) ≡ true → t < length ts
started_there ts t is = by (slice_get ts t) refl is
  where
    by : (o : Option Thread) → slice_get ts t ≡ o → can_start o ≡ true → t < length ts
    by None at_ h = cc
    by (Some x) at_ h = is_within ts t x at_

launched_there : (ts : List Thread) (t : ℕ) → can_launch (slice_get ts t) ≡ true → t < length ts
launched_there ts t is = by (slice_get ts t) refl is
  where
    by : (o : Option Thread) → slice_get ts t ≡ o → can_launch o ≡ true → t < length ts
    by None at_ h = cc
    by (Some x) at_ h = is_within ts t x at_

second : (a b : Bool) → a && b ≡ true → b ≡ true
second true b h = h
second false b h = cc

control_apt : (s : Scene) (r : Recorded) → length r.lists ≡ length s.threads → (c : Control) → is_control s c ≡ true → names_list r c
control_apt s r count (controls.Start t ok) is = let w = started_there s.threads t.0 (second (nat_lt 0 t.0) (can_start (slice_get s.threads t.0)) is) in omega (arith, w, count)
control_apt s r count (controls.Launch t ok) is = let w = launched_there s.threads t.0 is in omega (arith, w, count)
control_apt s r count (controls.Join t) is = let w = started_there s.threads t.0 (second (nat_lt 0 t.0) (can_start (slice_get s.threads t.0)) is) in omega (arith, w, count)

item_apt : (s : Scene) (r : Recorded) → length r.lists ≡ length s.threads → (t : ℕ) (x : Item) → is_item s t x ≡ true → is_apt r x
item_apt s r count t (items.Control c) is = control_apt s r count c is
item_apt s r count t (items.Change o p e) is = tt
item_apt s r count t (items.Look o l) is = tt
item_apt s r count t (items.Said q) is = tt

pub controls_apt : (s : Scene) (r : Recorded) → IsRecord s r → EachItem r (λ t i x. is_apt r x)
controls_apt s r well t i x there = item_apt s r well.count t x (well.each t i x there)

pub nodes_low : (s : Scene) (r : Recorded) (gs : List Give) (base : ℕ) → AreGives s r gs → base ≡ first_of r (length r.lists) → (k : ℕ) (g : Give) → slice_get gs k ≡ Some g → g.node < base
nodes_low s r gs base are is k g at_ =
    let o = are.from_items k g at_ in
    let v = item_valid r o.thread o.place o.item o.there in
    let n = give_node s r (node_of r o.thread o.place) o.item g o.gives in
    let w = node_within r o.thread o.place v.0 (omega (arith, v.1)) in
    omega (arith, n, w, is)
