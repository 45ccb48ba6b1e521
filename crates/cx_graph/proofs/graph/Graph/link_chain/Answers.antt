use Rattle.std.proofs.Common.{◌≡◌, ℕ, subst, arith, ◌+◌}
use Rattle.cx_graph.specs.Graph.{OneArc, ChainArc, Adds}
use Rattle.cx_graph.proofs.Adding.{adds_of_none, adds_of_more}
use Rattle.cx_graph.proofs.graph.Graph.link_chain.Goals as goal

pub loop-i-init : goal.loop-i-init
loop-i-init c = adds_of_none c.args.self.now.nodes.items (λ i. OneArc (c.args.first + i) (c.args.first + i + 1))

pub link-requires : goal.link-requires
link-requires c = omega (arith, c.loop-i.invariant.count, c.requires.within, c.loop-i-test.true)

pub loop-i-preserved : goal.loop-i-preserved
loop-i-preserved c = adds_of_more c.args.self.now.nodes.items c.loop-i.self.nodes.items c.link.new.self.nodes.items (λ i. OneArc (c.args.first + i) (c.args.first + i + 1)) c.loop-i.i c.loop-i.invariant c.in_ok-link.ensures

pub returns : goal.returns
returns c = let e : c.loop-i.i ≡ c.args.count = omega (arith, c.loop-i-test.false, c.loop-i.auto.i-end) in subst (λ (n : ℕ). Adds c.args.self.now.nodes.items c.loop-i.self.nodes.items (ChainArc c.args.first n)) e c.loop-i.invariant
