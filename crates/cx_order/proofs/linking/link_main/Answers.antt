use Rattle.std.proofs.Common.{◌≡◌, ◌∙◌, ◌<◌, ◌≤◌, ◌+◌, ◌-◌, ℕ, suc, List, length, get_or, Some, refl, sym, ap, subst, arith}
use Rattle.std.specs.Prelude.{slice_get}
use Rattle.std.proofs.lemmas.Option.{slice_get_read}
use Rattle.std.proofs.lemmas.Bool.{eqb-true, eqb-false}
use Rattle.std.specs.Vec.{vec_len}
use Rattle.cx_items.specs.declared.item.Item.{Item}
use Rattle.cx_history.specs.Histories.{list_of, item_at}
use Rattle.cx_history.specs.Views.{recorded_of}
use Rattle.cx_graph.specs.Graph.{Adds, ArcOf, OneArc, ChainArc}
use Rattle.cx_graph.proofs.Adding.{adds_of_none, adds_of_more}
use Rattle.cx_order.specs.Arcs.{RowArc, OneRowArc, ItemArc, OneItemArc, ListArc, NextArc, MainArc, OneMainArc, first_of, node_of}
use Rattle.cx_order.proofs.Walks.{length_lists}
use Rattle.cx_order.proofs.Nodes.{first_read, first_more, node_within}
use Rattle.cx_order.proofs.Linked.{adds_at, adds_all, no_list}
use Rattle.cx_order.proofs.linking.link_main.Goals as goal

pub loop-i-init : goal.loop-i-init
loop-i-init c = adds_of_none c.args.graph.now.nodes.items (OneMainArc (recorded_of c.args.parts.now.record.now))

pub link_main_item-requires-clause-room : goal.link_main_item-requires-clause-room
link_main_item-requires-clause-room c = record { within = omega (arith, c.requires.room.within, c.loop-i.invariant.count); small = omega (arith, c.requires.room.small, c.loop-i.invariant.count) }

pub link_main_item-requires-clause-thread : goal.link_main_item-requires-clause-thread
link_main_item-requires-clause-thread c =
    let r = recorded_of c.args.parts.now.record.now in
    c.requires.parts.controls_apt 0 c.loop-i.i c.item_at-item.result (subst (λ (xs : List Item). slice_get xs c.loop-i.i ≡ Some c.item_at-item.result) c.list_at-list.ensures c.item_at-item.ensures)

pub link_main_item-requires-clause-node : goal.link_main_item-requires-clause-node
link_main_item-requires-clause-node c =
    let r = recorded_of c.args.parts.now.record.now in
    let l : length c.list_at-list.result.now ≡ length (list_of r 0) = ap (λ (ys : List Item). length ys) c.list_at-list.ensures in
    let some = eqb-false (vec_len c.args.parts.now.record.now.lists) 0 (sym c.is_empty.ensures ∙ c.if-is_empty.false) in
    let b = node_within r 0 c.loop-i.i (omega (arith, length_lists c.args.parts.now.record.now, some, c.args.parts.now.record.now.lists.ok.0)) (omega (arith, l, c.loop-i-test.true)) in
    omega (arith, b, c.in_ok-node.ensures, c.requires.parts.base)

pub loop-i-preserved : goal.loop-i-preserved
loop-i-preserved c =
    let r = recorded_of c.args.parts.now.record.now in
    let there = subst (λ (xs : List Item). slice_get xs c.loop-i.i ≡ Some c.item_at-item.result) c.list_at-list.ensures c.item_at-item.ensures in
    let node : c.in_ok-node.node ≡ node_of r 0 c.loop-i.i = omega (arith, c.in_ok-node.ensures) in
    let here = subst (λ (n : ℕ). Adds c.loop-i.graph.nodes.items c.link_main_item.new.graph.nodes.items (MainArc r n c.item_at-item.result)) node c.in_ok-link_main_item.ensures in
    adds_of_more c.args.graph.now.nodes.items c.loop-i.graph.nodes.items c.link_main_item.new.graph.nodes.items (OneMainArc r) c.loop-i.i c.loop-i.invariant (adds_at (λ x. MainArc r (node_of r 0 c.loop-i.i) x) (list_of r 0) c.loop-i.i c.item_at-item.result c.loop-i.graph.nodes.items c.link_main_item.new.graph.nodes.items there here)

pub returns : goal.returns
returns c =
    let r = recorded_of c.args.parts.now.record.now in
    let l : length c.list_at-list.result.now ≡ length (list_of r 0) = ap (λ (ys : List Item). length ys) c.list_at-list.ensures in
    adds_all (OneMainArc r) c.loop-i.i (length (list_of r 0)) c.args.graph.now.nodes.items c.loop-i.graph.nodes.items (omega (arith, l, c.loop-i-test.false, c.loop-i.auto.i-end)) c.loop-i.invariant

pub returns-then-is_empty : goal.returns-then-is_empty
returns-then-is_empty c =
    let r = recorded_of c.args.parts.now.record.now in
    let none : vec_len c.args.parts.now.record.now.lists ≡ 0 = eqb-true (vec_len c.args.parts.now.record.now.lists) 0 (sym c.is_empty.ensures ∙ c.if-is_empty.true) in
    let short : length r.lists ≡ 0 = omega (arith, length_lists c.args.parts.now.record.now, none, c.args.parts.now.record.now.lists.ok.0) in
    subst (λ (n : ℕ). Adds c.args.graph.now.nodes.items c.args.graph.now.nodes.items (ArcOf (OneMainArc r) n)) (sym (no_list r short)) (adds_of_none c.args.graph.now.nodes.items (OneMainArc r))
