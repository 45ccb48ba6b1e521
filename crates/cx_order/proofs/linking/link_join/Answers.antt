use Rattle.std.proofs.Common.{◌≡◌, ◌∙◌, ◌<◌, ◌≤◌, ◌+◌, ◌-◌, ℕ, suc, List, length, get_or, Some, refl, sym, ap, subst, arith}
use Rattle.std.specs.Prelude.{slice_get}
use Rattle.std.proofs.lemmas.Option.{slice_get_read}
use Rattle.cx_items.specs.declared.item.Item.{Item}
use Rattle.cx_history.specs.Histories.{list_of, item_at}
use Rattle.cx_history.specs.Views.{recorded_of}
use Rattle.cx_graph.specs.Graph.{Adds, ArcOf, OneArc, ChainArc}
use Rattle.cx_graph.proofs.Adding.{adds_of_none, adds_of_more}
use Rattle.cx_order.specs.Arcs.{RowArc, OneRowArc, ItemArc, OneItemArc, ListArc, NextArc, MainArc, OneMainArc, first_of, node_of}
use Rattle.cx_order.proofs.Walks.{length_lists}
use Rattle.cx_order.proofs.Nodes.{first_read, first_more, node_within}
use Rattle.cx_order.proofs.Linked.{adds_at, adds_all}
use Rattle.cx_order.proofs.linking.link_join.Goals as goal

pub link-requires : goal.link-requires
link-requires c =
    let r = recorded_of c.args.parts.now.record.now in
    let f = first_read r c.args.parts.now.firsts.now (c.args.t + 1) c.requires.parts.firsts (omega (arith, c.requires.thread)) in
    let m = first_more r c.args.t c.requires.thread in
    let b = node_within r c.args.t (length (list_of r c.args.t)) c.requires.thread (omega arith) in
    omega (arith, f, m, b, c.requires.parts.base, c.requires.room.within)

pub returns : goal.returns
returns c =
    let r = recorded_of c.args.parts.now.record.now in
    let f = first_read r c.args.parts.now.firsts.now (c.args.t + 1) c.requires.parts.firsts (omega (arith, c.requires.thread)) in
    let m = first_more r c.args.t c.requires.thread in
    let same : get_or c.args.parts.now.firsts.now (c.args.t + 1) 0 - 1 ≡ node_of r c.args.t (length (list_of r c.args.t)) = omega (arith, f, m) in
    subst (λ (n : ℕ). Adds c.args.graph.now.nodes.items c.link.new.self.nodes.items (OneArc n (c.args.node + 1))) same c.in_ok-link.ensures
