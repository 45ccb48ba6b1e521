use Rattle.std.proofs.Common.{◌≡◌, Some, length, refl}
use Rattle.std.specs.Prelude.{slice_get}
use Rattle.std.proofs.lemmas.Option.{slice_get_read}
use Rattle.cx_graph.proofs.Hubbing.{adds_hub}
use Rattle.cx_graph.proofs.graph.Graph.link_hub.Goals as goal

pub returns : goal.returns
returns c =
    let gs = c.args.hubs.now.gives.items in
    let there : slice_get gs c.args.x ≡ Some c.index-give.result.now = slice_get_read gs (length gs) c.args.x c.index-give.result.now refl c.requires.there c.index-give.ensures in
    adds_hub gs c.args.base c.args.x c.index-give.result.now there c.args.self.now.nodes.items c.link.new.self.nodes.items c.link_next.new.self.nodes.items c.in_ok-link.ensures c.in_ok-link_next.ensures
