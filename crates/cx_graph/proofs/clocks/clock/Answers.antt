use Rattle.std.proofs.Common.{rules, ◌≡◌, ◌∙◌, ◌+◌, ◌-◌, ◌<◌, arith, subst, ℕ}
use Rattle.cx_graph.specs.Marks.{Searched}
use Rattle.cx_graph.proofs.Searches.{searched_none, from_source, is_clock}
use Rattle.cx_graph.proofs.clocks.clock.Goals as goal

pub loop-i-init : goal.loop-i-init
loop-i-init c = searched_none c.args.graph.now.nodes.items c.args.first c.args.count c.in_ok-marks.marks (c.in_ok-marks.ensures.size ∙ search rules) c.in_ok-marks.ensures.none c.in_ok-marks.ensures.none_waits

pub spread-requires-clause-size : goal.spread-requires-clause-size
spread-requires-clause-size c = c.loop-i.invariant.searching.size

pub follow-requires-clause-searching : goal.follow-requires-clause-searching
follow-requires-clause-searching c =
    let within : c.loop-i.i - 1 < c.args.count = omega (arith, c.loop-i-test.true, c.loop-i.auto.i) in
    let back : c.loop-i.i ≡ c.loop-i.i - 1 + 1 = omega (arith, c.loop-i-test.true) in
    from_source c.args.graph.now.nodes.items c.args.first c.args.count (c.loop-i.i - 1) c.loop-i.marks c.spread.new.self within (subst (λ (n : ℕ). Searched c.args.graph.now.nodes.items c.args.first c.args.count n c.loop-i.marks) back c.loop-i.invariant) c.in_ok-spread.ensures

pub loop-i-preserved : goal.loop-i-preserved
loop-i-preserved c = c.in_ok-follow.ensures

pub returns : goal.returns
returns c =
    let none : c.loop-i.i ≡ 0 = omega (arith, c.loop-i-test.false) in
    is_clock c.args.graph.now.nodes.items c.args.first c.args.count c.loop-i.marks c.requires.chain (subst (λ (n : ℕ). Searched c.args.graph.now.nodes.items c.args.first c.args.count n c.loop-i.marks) none c.loop-i.invariant)
