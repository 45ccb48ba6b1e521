use Rattle.std.proofs.Common.{arith}
use Rattle.cx_order.specs.Parts.{HasRoom}
use Rattle.cx_order.proofs.Graphing.{all_added}
use Rattle.cx_order.proofs.building.graph_of.Goals as goal

pub link_points-requires-clause-room : goal.link_points-requires-clause-room
link_points-requires-clause-room c = record { within = omega (arith, c.in_ok-graph.ensures.count, c.in_ok-total.ensures.value); small = omega (arith, c.in_ok-graph.ensures.count, c.in_ok-total.ensures.small) }

pub link_main-requires-clause-room : goal.link_main-requires-clause-room
link_main-requires-clause-room c = record { within = omega (arith, c.in_ok-graph.ensures.count, c.in_ok-total.ensures.value, c.in_ok-link_points.ensures.count); small = omega (arith, c.in_ok-graph.ensures.count, c.in_ok-total.ensures.small, c.in_ok-link_points.ensures.count) }

pub link_hubs-requires-clause-within : goal.link_hubs-requires-clause-within
link_hubs-requires-clause-within c = omega (arith, c.in_ok-graph.ensures.count, c.in_ok-total.ensures.value, c.in_ok-link_points.ensures.count, c.in_ok-link_main.ensures.count)

pub link_hubs-requires-clause-nodes : goal.link_hubs-requires-clause-nodes
link_hubs-requires-clause-nodes c = λ k g at_. let w = c.requires.low k g at_ in omega (arith, w, c.in_ok-graph.ensures.count, c.in_ok-total.ensures.value, c.in_ok-link_points.ensures.count, c.in_ok-link_main.ensures.count)

pub link_hubs-requires-clause-small : goal.link_hubs-requires-clause-small
link_hubs-requires-clause-small c = omega (arith, c.in_ok-graph.ensures.count, c.in_ok-total.ensures.small, c.in_ok-link_points.ensures.count, c.in_ok-link_main.ensures.count)

pub link_lists-requires-clause-room : goal.link_lists-requires-clause-room
link_lists-requires-clause-room c = record { within = omega (arith, c.in_ok-graph.ensures.count, c.in_ok-total.ensures.value, c.in_ok-link_points.ensures.count, c.in_ok-link_main.ensures.count, c.in_ok-link_hubs.ensures.count); small = omega (arith, c.in_ok-graph.ensures.count, c.in_ok-total.ensures.small, c.in_ok-link_points.ensures.count, c.in_ok-link_main.ensures.count, c.in_ok-link_hubs.ensures.count) }

pub returns : goal.returns
returns c =
    let room : HasRoom c.args.parts.now c.in_ok-graph.graph.nodes.items = record { within = omega (arith, c.in_ok-graph.ensures.count, c.in_ok-total.ensures.value); small = omega (arith, c.in_ok-graph.ensures.count, c.in_ok-total.ensures.small) } in
    all_added c.args.parts.now c.in_ok-graph.graph.nodes.items c.link_points.new.graph.nodes.items c.link_main.new.graph.nodes.items c.link_hubs.new.self.nodes.items c.link_lists.new.graph.nodes.items
    c.in_ok-graph.ensures.none c.in_ok-link_points.ensures c.in_ok-link_main.ensures c.in_ok-link_hubs.ensures c.in_ok-link_lists.ensures room
