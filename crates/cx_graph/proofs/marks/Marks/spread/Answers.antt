use Rattle.std.proofs.Common.{◌≡◌, ◌∙◌, ℕ, List, subst, sym, get_or, arith}
use Rattle.std.specs.List.{Contains}
use Rattle.std.proofs.lemmas.List.Elements.{Contains-get_or}
use Rattle.cx_graph.specs.Graph.{next_of}
use Rattle.cx_graph.specs.Marks.{Spreads}
use Rattle.cx_graph.proofs.Arcs.{next_is}
use Rattle.cx_graph.proofs.Spreading.{spreads_more, spreads_all, spreads_none, get_zero}
use Rattle.cx_graph.proofs.marks.Marks.spread.Goals as goal

pub mark-requires-clause-node : goal.mark-requires-clause-node
mark-requires-clause-node c =
    let next = c.deref-b-items.result.now in
    let is : next_of c.args.graph.now.nodes.items c.args.a ≡ next = next_is c.args.graph.now.nodes.items c.args.a c.index-node.result.now c.requires.node c.index-node.ensures ∙ sym c.deref-b-items.ensures.value in
    let low = c.requires.graph c.args.a (get_or next c.loop-b.b-index 0) (subst (λ (ns : List ℕ). Contains ns (get_or next c.loop-b.b-index 0)) (sym is) (Contains-get_or next c.loop-b.b-index 0 c.loop-b-test.true)) in
    omega (arith, low, c.loop-b.invariant.size, c.requires.size)

pub loop-b-init : goal.loop-b-init
loop-b-init c = spreads_none c.args.self.now c.deref-b-items.result.now c.args.value

pub loop-b-preserved : goal.loop-b-preserved
loop-b-preserved c = spreads_more c.args.self.now c.loop-b.self c.mark.new.self c.deref-b-items.result.now c.loop-b.b-index (get_or c.deref-b-items.result.now c.loop-b.b-index 0) c.args.value c.requires.value c.loop-b-test.true (get_zero c.deref-b-items.result.now c.loop-b.b-index c.loop-b-test.true) c.loop-b.invariant c.in_ok-mark.ensures

pub returns : goal.returns
returns c =
    let next = c.deref-b-items.result.now in
    let is : next_of c.args.graph.now.nodes.items c.args.a ≡ next = next_is c.args.graph.now.nodes.items c.args.a c.index-node.result.now c.requires.node c.index-node.ensures ∙ sym c.deref-b-items.ensures.value in
    subst (λ (ns : List ℕ). Spreads c.args.self.now c.loop-b.self (Contains ns) c.args.value) (sym is) (spreads_all c.args.self.now c.loop-b.self next c.loop-b.b-index c.args.value c.loop-b-test.false c.loop-b.invariant)
