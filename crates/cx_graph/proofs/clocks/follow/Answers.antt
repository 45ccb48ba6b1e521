use Rattle.std.proofs.Common.{rules, ◌≡◌, ◌∷◌, [], ◌∙◌, ap, refl, ◌+◌, arith, length-append, append-nil, length}
use Rattle.cx_graph.proofs.Searches.{from_waiting, searched, empty, stays, waits_within}
use Rattle.cx_graph.proofs.clocks.follow.Goals as goal

pub loop-a-preserved : goal.loop-a-preserved
loop-a-preserved c = from_waiting c.args.graph.now.nodes.items c.args.first c.args.count c.args.low (record { values = c.loop-a.marks.values; waiting = c.pop.new.self }) c.spread.new.self c.loop-a.marks c.in-Some.a refl c.in-Some.ensures.items c.loop-a.invariant c.in_ok-spread.ensures

pub loop-a-smaller : goal.loop-a-smaller
loop-a-smaller c =
    let w = c.in_ok-spread.ensures.as_many in
    let l : length c.loop-a.marks.waiting.items ≡ length c.pop.new.self.items + 1 = ap length c.in-Some.ensures.items ∙ length-append c.pop.new.self.items (c.in-Some.a ∷ []) in
    omega (arith, w, l)

pub returns : goal.returns
returns c =
    let none : length c.pop.new.self.items ≡ 0 = search rules in
    searched c.args.graph.now.nodes.items c.args.first c.args.count c.args.low (record { values = c.loop-a.marks.values; waiting = c.pop.new.self }) (empty c.pop.new.self.items none) (stays c.args.graph.now.nodes.items c.args.first c.args.count c.args.low c.loop-a.marks (record { values = c.loop-a.marks.values; waiting = c.pop.new.self }) refl (c.in_default.ensures.items ∙ append-nil c.pop.new.self.items) c.loop-a.invariant)

pub spread-requires-clause-node : goal.spread-requires-clause-node
spread-requires-clause-node c = waits_within c.args.graph.now.nodes.items c.args.first c.args.count c.args.low c.loop-a.marks c.pop.new.self.items c.in-Some.a c.in-Some.ensures.items c.loop-a.invariant
