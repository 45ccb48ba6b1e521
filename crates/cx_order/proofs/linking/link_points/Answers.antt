use Rattle.std.proofs.Common.{◌≡◌, ◌∙◌, ◌<◌, ◌≤◌, ◌+◌, ◌-◌, ℕ, suc, List, length, get_or, Some, refl, sym, ap, subst, arith}
use Rattle.std.specs.Prelude.{slice_get}
use Rattle.std.proofs.lemmas.Option.{slice_get_read}
use Rattle.cx_items.specs.declared.item.Item.{Item}
use Rattle.cx_history.specs.Histories.{list_of, item_at}
use Rattle.cx_history.specs.Views.{recorded_of}
use Rattle.cx_graph.specs.Graph.{Adds, ArcOf, OneArc, ChainArc}
use Rattle.cx_graph.proofs.Adding.{adds_of_none, adds_of_more}
use Rattle.cx_order.specs.Arcs.{RowArc, OneRowArc, ItemArc, OneItemArc, ListArc, NextArc, MainArc, OneMainArc, first_of, node_of}
use Rattle.cx_order.proofs.Walks.{length_lists}
use Rattle.cx_order.proofs.Nodes.{first_read, first_more, node_within}
use Rattle.cx_order.proofs.Linked.{adds_at, adds_all}
use Rattle.cx_order.proofs.linking.link_points.Goals as goal

pub loop-t-init : goal.loop-t-init
loop-t-init c = adds_of_none c.args.graph.now.nodes.items (NextArc (recorded_of c.args.parts.now.record.now))

pub link_chain-requires-clause-within : goal.link_chain-requires-clause-within
link_chain-requires-clause-within c =
    let r = recorded_of c.args.parts.now.record.now in
    let low : c.loop-t.t < length r.lists = omega (arith, length_lists c.args.parts.now.record.now, c.loop-t-test.true) in
    let f = first_read r c.args.parts.now.firsts.now c.loop-t.t c.requires.parts.firsts (omega (arith, low)) in
    let b = node_within r c.loop-t.t (length (list_of r c.loop-t.t)) low (omega arith) in
    let l : length c.list_at-list.result.now ≡ length (list_of r c.loop-t.t) = ap (λ (ys : List Item). length ys) c.list_at-list.ensures in
    omega (arith, f, b, l, c.in_ok-count.ensures, c.requires.parts.base, c.requires.room.within, c.loop-t.invariant.count)

pub loop-t-preserved : goal.loop-t-preserved
loop-t-preserved c =
    let r = recorded_of c.args.parts.now.record.now in
    let low : c.loop-t.t < length r.lists = omega (arith, length_lists c.args.parts.now.record.now, c.loop-t-test.true) in
    let f = first_read r c.args.parts.now.firsts.now c.loop-t.t c.requires.parts.firsts (omega (arith, low)) in
    let l : length c.list_at-list.result.now ≡ length (list_of r c.loop-t.t) = ap (λ (ys : List Item). length ys) c.list_at-list.ensures in
    let here = subst (λ (n : ℕ). Adds c.loop-t.graph.nodes.items c.link_chain.new.self.nodes.items (ChainArc n c.in_ok-count.count)) f c.in_ok-link_chain.ensures in
    let n : c.in_ok-count.count ≡ length (list_of r c.loop-t.t) = omega (arith, l, c.in_ok-count.ensures) in
    adds_of_more c.args.graph.now.nodes.items c.loop-t.graph.nodes.items c.link_chain.new.self.nodes.items (NextArc r) c.loop-t.t c.loop-t.invariant (subst (λ (n : ℕ). Adds c.loop-t.graph.nodes.items c.link_chain.new.self.nodes.items (ChainArc (first_of r c.loop-t.t) n)) n here)

pub returns : goal.returns
returns c =
    let r = recorded_of c.args.parts.now.record.now in
    adds_all (NextArc r) c.loop-t.t (length r.lists) c.args.graph.now.nodes.items c.loop-t.graph.nodes.items (omega (arith, length_lists c.args.parts.now.record.now, c.loop-t-test.false, c.loop-t.auto.t-end)) c.loop-t.invariant
