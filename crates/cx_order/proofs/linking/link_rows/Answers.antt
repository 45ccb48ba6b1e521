use Rattle.std.proofs.Common.{◌≡◌, ◌∙◌, ◌<◌, ◌≤◌, ◌+◌, ◌-◌, ℕ, suc, List, length, get_or, Some, refl, sym, ap, subst, arith}
use Rattle.std.specs.Prelude.{slice_get}
use Rattle.std.proofs.lemmas.Option.{slice_get_read}
use Rattle.cx_items.specs.declared.item.Item.{Item}
use Rattle.cx_history.specs.Histories.{list_of, item_at}
use Rattle.cx_history.specs.Views.{recorded_of}
use Rattle.cx_graph.specs.Graph.{Adds, ArcOf, OneArc, ChainArc}
use Rattle.cx_graph.proofs.Adding.{adds_of_none, adds_of_more}
use Rattle.cx_order.specs.Arcs.{RowArc, OneRowArc, ItemArc, OneItemArc, ListArc, NextArc, MainArc, OneMainArc, first_of, node_of}
use Rattle.cx_order.proofs.Walks.{length_lists}
use Rattle.cx_order.proofs.Nodes.{first_read, first_more, node_within}
use Rattle.cx_order.proofs.Linked.{adds_at, adds_all}
use Rattle.cx_order.proofs.linking.link_rows.Goals as goal

pub loop-k-init : goal.loop-k-init
loop-k-init c = adds_of_none c.args.graph.now.nodes.items (OneRowArc (recorded_of c.args.parts.now.record.now) c.args.parts.now.hubs.now.gives.items c.args.parts.now.base c.args.act.now.object c.args.rows.now c.args.act.now.at c.args.act.now.a c.args.target)

pub loop-k-preserved : goal.loop-k-preserved
loop-k-preserved c =
    let r = recorded_of c.args.parts.now.record.now in
    let gs = c.args.parts.now.hubs.now.gives.items in
    adds_of_more c.args.graph.now.nodes.items c.loop-k.graph.nodes.items c.link_row.new.graph.nodes.items (OneRowArc r gs c.args.parts.now.base c.args.act.now.object c.args.rows.now c.args.act.now.at c.args.act.now.a c.args.target) c.loop-k.k c.loop-k.invariant
    (adds_at (λ row. RowArc r gs c.args.parts.now.base c.args.act.now.object row c.args.act.now.at c.args.act.now.a c.args.target) c.args.rows.now c.loop-k.k c.row_at-row.result c.loop-k.graph.nodes.items c.link_row.new.graph.nodes.items c.row_at-row.ensures c.in_ok-link_row.ensures)

pub returns : goal.returns
returns c =
    let r = recorded_of c.args.parts.now.record.now in
    adds_all (OneRowArc r c.args.parts.now.hubs.now.gives.items c.args.parts.now.base c.args.act.now.object c.args.rows.now c.args.act.now.at c.args.act.now.a c.args.target) c.loop-k.k (length c.args.rows.now) c.args.graph.now.nodes.items c.loop-k.graph.nodes.items (omega (arith, c.loop-k-test.false, c.loop-k.auto.k-end)) c.loop-k.invariant
