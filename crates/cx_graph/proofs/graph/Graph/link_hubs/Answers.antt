use Rattle.std.proofs.Common.{arith}
use Rattle.cx_graph.specs.Hubs.{HubArcs}
use Rattle.cx_graph.proofs.Adding.{adds_of_none, adds_of_more}
use Rattle.cx_graph.proofs.graph.Graph.link_hubs.Goals as goal

pub loop-x-init : goal.loop-x-init
loop-x-init c = adds_of_none c.args.self.now.nodes.items (HubArcs c.args.hubs.now.gives.items c.args.base)

pub link_hub-requires-clause-within : goal.link_hub-requires-clause-within
link_hub-requires-clause-within c = omega (arith, c.loop-x.invariant.count, c.requires.within)

pub link_hub-requires-clause-nodes : goal.link_hub-requires-clause-nodes
link_hub-requires-clause-nodes c = λ k g at_. let h = c.requires.nodes k g at_ in omega (arith, c.loop-x.invariant.count, h)

pub link_hub-requires-clause-small : goal.link_hub-requires-clause-small
link_hub-requires-clause-small c = omega (arith, c.loop-x.invariant.count, c.requires.small)

pub loop-x-preserved : goal.loop-x-preserved
loop-x-preserved c = adds_of_more c.args.self.now.nodes.items c.loop-x.self.nodes.items c.link_hub.new.self.nodes.items (HubArcs c.args.hubs.now.gives.items c.args.base) c.loop-x.x c.loop-x.invariant c.in_ok-link_hub.ensures
