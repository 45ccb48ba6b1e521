use Rattle.std.proofs.Common.{◌≡◌, ◌∙◌, ◌<◌, ◌+◌, ℕ, suc, List, length, get_or, Some, ap, subst, sym, arith, length-append, ◌∷◌, []}
use Rattle.cx_items.specs.declared.item.Item.{Item}
use Rattle.cx_history.specs.Histories.{list_of}
use Rattle.cx_history.specs.Views.{recorded_of}
use Rattle.cx_graph.specs.Graph.{IsChain, IsClock}
use Rattle.cx_order.specs.Arcs.{first_of}
use Rattle.cx_order.proofs.Walks.{length_lists}
use Rattle.cx_order.proofs.Nodes.{first_read}
use Rattle.cx_order.proofs.Graphing.{is_graph, is_chain}
use Rattle.cx_order.proofs.Clocked.{clock_more}
use Rattle.cx_order.proofs.clocks.clocks.Goals as goal

pub clock-requires-clause-graph : goal.clock-requires-clause-graph
clock-requires-clause-graph c = is_graph c.args.parts.now c.args.graph.now.nodes.items c.requires.parts c.requires.graph

pub clock-requires-clause-chain : goal.clock-requires-clause-chain
clock-requires-clause-chain c =
    let r = recorded_of c.args.parts.now.record.now in
    let low : c.loop-t.t < length r.lists = omega (arith, length_lists c.args.parts.now.record.now, c.loop-t-test.true) in
    let f = first_read r c.args.parts.now.firsts.now c.loop-t.t c.requires.parts.firsts (omega (arith, low)) in
    let l : length c.list_at.result.now ≡ length (list_of r c.loop-t.t) = ap (λ (ys : List Item). length ys) c.list_at.ensures in
    let n : c.in_ok-count.count ≡ suc (length (list_of r c.loop-t.t)) = omega (arith, l, c.in_ok-count.ensures) in
    let chain = is_chain c.args.parts.now c.args.graph.now.nodes.items c.requires.parts c.requires.graph c.loop-t.t low in
    subst (λ (m : ℕ). IsChain c.args.graph.now.nodes.items m c.in_ok-count.count) (sym f) (subst (λ (m : ℕ). IsChain c.args.graph.now.nodes.items (first_of r c.loop-t.t) m) (sym n) chain)

pub clock-requires-clause-small : goal.clock-requires-clause-small
clock-requires-clause-small c = c.requires.graph.room.small

pub loop-t-preserved : goal.loop-t-preserved
loop-t-preserved c =
    let r = recorded_of c.args.parts.now.record.now in
    let inv = c.loop-t.invariant in
    let low : c.loop-t.t < length r.lists = omega (arith, length_lists c.args.parts.now.record.now, c.loop-t-test.true) in
    let f = first_read r c.args.parts.now.firsts.now c.loop-t.t c.requires.parts.firsts (omega (arith, low)) in
    let l : length c.list_at.result.now ≡ length (list_of r c.loop-t.t) = ap (λ (ys : List Item). length ys) c.list_at.ensures in
    let n : c.in_ok-count.count ≡ suc (length (list_of r c.loop-t.t)) = omega (arith, l, c.in_ok-count.ensures) in
    let here = subst (λ (m : ℕ). IsClock c.args.graph.now.nodes.items (first_of r c.loop-t.t) m c.in_ok-values.values.items) n (subst (λ (m : ℕ). IsClock c.args.graph.now.nodes.items m c.in_ok-count.count c.in_ok-values.values.items) f c.in_ok-values.ensures) in
    record {
      count = ap length c.in_ok-push.ensures.items ∙ (length-append c.loop-t.clocks.items (record { values = c.in_ok-values.values } ∷ []) ∙ omega (arith, inv.count));
      each = clock_more r c.args.graph.now.nodes.items c.loop-t.clocks.items c.push.new.self.items (record { values = c.in_ok-values.values }) c.loop-t.t inv.count inv.each here c.in_ok-push.ensures.items;
    }

pub returns : goal.returns
returns c = record { count = omega (arith, c.loop-t.invariant.count, length_lists c.args.parts.now.record.now, c.loop-t-test.false, c.loop-t.auto.t-end); each = c.loop-t.invariant.each }
