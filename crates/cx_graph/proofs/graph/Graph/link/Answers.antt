use Rattle.cx_graph.proofs.Adding.{adds_one}
use Rattle.cx_graph.proofs.graph.Graph.link.Goals as goal

pub returns : goal.returns
returns c = adds_one c.args.self.now.nodes.items c.add.new.self.nodes.items c.args.a c.args.b c.in_ok-add.ensures.count c.in_ok-add.ensures.arcs
