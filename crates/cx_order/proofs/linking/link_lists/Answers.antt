use Rattle.std.proofs.Common.{◌≡◌, ◌∙◌, ◌<◌, ◌≤◌, ◌+◌, ◌-◌, ℕ, suc, List, length, get_or, Some, refl, sym, ap, subst, arith}
use Rattle.std.specs.Prelude.{slice_get}
use Rattle.std.proofs.lemmas.Option.{slice_get_read}
use Rattle.cx_items.specs.declared.item.Item.{Item}
use Rattle.cx_history.specs.Histories.{list_of, item_at}
use Rattle.cx_history.specs.Views.{recorded_of}
use Rattle.cx_graph.specs.Graph.{Adds, ArcOf, OneArc, ChainArc}
use Rattle.cx_graph.proofs.Adding.{adds_of_none, adds_of_more}
use Rattle.cx_order.specs.Arcs.{RowArc, OneRowArc, ItemArc, OneItemArc, ListArc, NextArc, MainArc, OneMainArc, first_of, node_of}
use Rattle.cx_order.proofs.Walks.{length_lists}
use Rattle.cx_order.proofs.Nodes.{first_read, first_more, node_within}
use Rattle.cx_order.proofs.Linked.{adds_at, adds_all}
use Rattle.cx_order.proofs.linking.link_lists.Goals as goal

pub loop-t-init : goal.loop-t-init
loop-t-init c = adds_of_none c.args.graph.now.nodes.items (ListArc (recorded_of c.args.parts.now.record.now) c.args.parts.now.hubs.now.gives.items c.args.parts.now.base)

pub loop-t-preserved : goal.loop-t-preserved
loop-t-preserved c =
    let r = recorded_of c.args.parts.now.record.now in
    let each = ListArc r c.args.parts.now.hubs.now.gives.items c.args.parts.now.base in
    adds_of_more c.args.graph.now.nodes.items c.loop-t.graph.nodes.items c.link_list.new.graph.nodes.items each c.loop-t.t c.loop-t.invariant (subst (λ (n : ℕ). Adds c.loop-t.graph.nodes.items c.link_list.new.graph.nodes.items (each n)) c.in_ok-n.ensures c.in_ok-link_list.ensures)

pub returns : goal.returns
returns c =
    let r = recorded_of c.args.parts.now.record.now in
    adds_all (ListArc r c.args.parts.now.hubs.now.gives.items c.args.parts.now.base) c.loop-t.t (length r.lists) c.args.graph.now.nodes.items c.loop-t.graph.nodes.items (omega (arith, length_lists c.args.parts.now.record.now, c.loop-t-test.false, c.loop-t.auto.t-end)) c.loop-t.invariant
