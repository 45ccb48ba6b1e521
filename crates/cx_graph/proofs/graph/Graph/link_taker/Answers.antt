use Rattle.cx_graph.proofs.Hubbing.{adds_taker, adds_no_taker}
use Rattle.cx_graph.proofs.graph.Graph.link_taker.Goals as goal

pub returns-in-None : goal.returns-in-None
returns-in-None c = adds_no_taker c.args.hubs.now.gives.items c.args.base c.args.class c.args.key c.args.bound c.args.target c.args.self.now.nodes.items c.in-None.ensures

pub returns-in_ok-link-in-Some : goal.returns-in_ok-link-in-Some
returns-in_ok-link-in-Some c = adds_taker c.args.hubs.now.gives.items c.args.base c.args.class c.args.key c.args.bound c.args.target c.in-Some.x c.args.self.now.nodes.items c.link.new.self.nodes.items c.in-Some.ensures c.in_ok-link-in-Some.ensures
