use Rattle.std.proofs.Common.{◌≡◌, ◌∙◌, ◌<◌, ◌≤◌, ◌+◌, ◌-◌, ℕ, suc, List, length, get_or, Some, refl, sym, ap, subst, arith}
use Rattle.std.specs.Prelude.{slice_get}
use Rattle.std.proofs.lemmas.Option.{slice_get_read}
use Rattle.cx_items.specs.declared.item.Item.{Item}
use Rattle.cx_history.specs.Histories.{list_of, item_at}
use Rattle.cx_history.specs.Views.{recorded_of}
use Rattle.cx_graph.specs.Graph.{Adds, ArcOf, OneArc, ChainArc}
use Rattle.cx_graph.proofs.Adding.{adds_of_none, adds_of_more}
use Rattle.cx_order.specs.Arcs.{RowArc, OneRowArc, ItemArc, OneItemArc, ListArc, NextArc, MainArc, OneMainArc, first_of, node_of}
use Rattle.cx_order.proofs.Walks.{length_lists}
use Rattle.cx_order.proofs.Nodes.{first_read, first_more, node_within}
use Rattle.cx_order.proofs.Linked.{adds_at, adds_all}
use Rattle.cx_order.proofs.linking.link_list.Goals as goal

pub loop-i-init : goal.loop-i-init
loop-i-init c =
    let r = recorded_of c.args.parts.now.record.now in
    let f = first_read r c.args.parts.now.firsts.now c.args.t c.requires.parts.firsts (omega (arith, c.requires.thread)) in
    record {
      target = omega (arith, f);
      adds = adds_of_none c.args.graph.now.nodes.items (OneItemArc r c.args.parts.now.hubs.now.gives.items c.args.parts.now.base (list_of r c.args.t) (first_of r c.args.t));
    }

pub link_item-requires-clause-room : goal.link_item-requires-clause-room
link_item-requires-clause-room c = record { within = omega (arith, c.requires.room.within, c.loop-i.invariant.adds.count); small = omega (arith, c.requires.room.small, c.loop-i.invariant.adds.count) }

pub link_item-requires-clause-small : goal.link_item-requires-clause-small
link_item-requires-clause-small c =
    let r = recorded_of c.args.parts.now.record.now in
    c.requires.parts.small c.args.t c.loop-i.i c.item_at-item.result (subst (λ (xs : List Item). slice_get xs c.loop-i.i ≡ Some c.item_at-item.result) c.list_at-list.ensures c.item_at-item.ensures)

pub loop-i-preserved : goal.loop-i-preserved
loop-i-preserved c =
    let r = recorded_of c.args.parts.now.record.now in
    let gs = c.args.parts.now.hubs.now.gives.items in
    let inv = c.loop-i.invariant in
    let target : c.in_ok-target.target ≡ first_of r c.args.t + c.loop-i.i + 1 = omega (arith, c.in_ok-target.ensures, inv.target) in
    let there = subst (λ (xs : List Item). slice_get xs c.loop-i.i ≡ Some c.item_at-item.result) c.list_at-list.ensures c.item_at-item.ensures in
    let here = subst (λ (n : ℕ). Adds c.loop-i.graph.nodes.items c.link_item.new.graph.nodes.items (ItemArc r gs c.args.parts.now.base n c.item_at-item.result)) target c.in_ok-link_item.ensures in
    record {
      target = omega (arith, target);
      adds = adds_of_more c.args.graph.now.nodes.items c.loop-i.graph.nodes.items c.link_item.new.graph.nodes.items (OneItemArc r gs c.args.parts.now.base (list_of r c.args.t) (first_of r c.args.t)) c.loop-i.i inv.adds
          (adds_at (λ x. ItemArc r gs c.args.parts.now.base (first_of r c.args.t + c.loop-i.i + 1) x) (list_of r c.args.t) c.loop-i.i c.item_at-item.result c.loop-i.graph.nodes.items c.link_item.new.graph.nodes.items there here);
    }

pub returns : goal.returns
returns c =
    let r = recorded_of c.args.parts.now.record.now in
    let gs = c.args.parts.now.hubs.now.gives.items in
    let l : length c.list_at-list.result.now ≡ length (list_of r c.args.t) = ap (λ (ys : List Item). length ys) c.list_at-list.ensures in
    adds_all (OneItemArc r gs c.args.parts.now.base (list_of r c.args.t) (first_of r c.args.t)) c.loop-i.i (length (list_of r c.args.t)) c.args.graph.now.nodes.items c.loop-i.graph.nodes.items (omega (arith, l, c.loop-i-test.false, c.loop-i.auto.i-end)) c.loop-i.invariant.adds
