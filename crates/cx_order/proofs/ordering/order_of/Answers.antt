use Rattle.std.proofs.Common.{◌≡◌, ◌<◌, ℕ, suc, List, length, get_or, Option, Some, None, ap, sym, subst, arith}
use Rattle.cx_scene.specs.Scene.{scene_of}
use Rattle.cx_history.specs.Views.{recorded_of}
use Rattle.cx_order.specs.declared.clocks.Clock.{Clock}
use Rattle.cx_order.specs.Arcs.{AreFirsts, first_of}
use Rattle.cx_order.specs.Graphs.{FirstPast}
use Rattle.cx_order.proofs.Walks.{length_lists}
use Rattle.cx_order.proofs.Apt.{places_small, controls_apt, nodes_low}
use Rattle.cx_order.proofs.Told.{are_parts, base_is, right_by, order_tells}
use Rattle.cx_order.proofs.Clocked.{AreRight, no_cycle, first_cycle}
use Rattle.cx_order.proofs.ordering.order_of.Goals as goal

pub hubs-requires-clause-small : goal.hubs-requires-clause-small
hubs-requires-clause-small c = places_small (scene_of c.args.plan.now) (recorded_of c.args.record.now) c.requires.well_formed

pub graph_of-requires-clause-parts : goal.graph_of-requires-clause-parts
graph_of-requires-clause-parts c = are_parts (scene_of c.args.plan.now) _ c.requires.well_formed c.in_ok-tally.ensures (subst (λ (fs : List ℕ). AreFirsts (recorded_of c.args.record.now) fs) (sym c.deref-2.ensures.value) c.in_ok-firsts.ensures)
    (base_is (recorded_of c.args.record.now) c.in_ok-firsts.firsts.items c.len.result c.index-base.result.now c.in_ok-firsts.ensures (omega (arith, c.len.ensures, c.args.record.now.lists.ok.0, length_lists c.args.record.now)) c.index-base.ensures)

pub clocks-requires-clause-parts : goal.clocks-requires-clause-parts
clocks-requires-clause-parts c = are_parts (scene_of c.args.plan.now) _ c.requires.well_formed c.in_ok-tally.ensures (subst (λ (fs : List ℕ). AreFirsts (recorded_of c.args.record.now) fs) (sym c.deref-2.ensures.value) c.in_ok-firsts.ensures)
    (base_is (recorded_of c.args.record.now) c.in_ok-firsts.firsts.items c.len.result c.index-base.result.now c.in_ok-firsts.ensures (omega (arith, c.len.ensures, c.args.record.now.lists.ok.0, length_lists c.args.record.now)) c.index-base.ensures)

pub first_cycle-requires-clause-parts : goal.first_cycle-requires-clause-parts
first_cycle-requires-clause-parts c = are_parts (scene_of c.args.plan.now) _ c.requires.well_formed c.in_ok-tally.ensures (subst (λ (fs : List ℕ). AreFirsts (recorded_of c.args.record.now) fs) (sym c.deref-2.ensures.value) c.in_ok-firsts.ensures)
    (base_is (recorded_of c.args.record.now) c.in_ok-firsts.firsts.items c.len.result c.index-base.result.now c.in_ok-firsts.ensures (omega (arith, c.len.ensures, c.args.record.now.lists.ok.0, length_lists c.args.record.now)) c.index-base.ensures)

pub graph_of-requires-clause-low : goal.graph_of-requires-clause-low
graph_of-requires-clause-low c =
    let base = base_is (recorded_of c.args.record.now) c.in_ok-firsts.firsts.items c.len.result c.index-base.result.now c.in_ok-firsts.ensures (omega (arith, c.len.ensures, c.args.record.now.lists.ok.0, length_lists c.args.record.now)) c.index-base.ensures in
    nodes_low (scene_of c.args.plan.now) (recorded_of c.args.record.now) c.in_ok-hubs.hubs.gives.items c.index-base.result.now c.in_ok-hubs.ensures.all base

pub returns-in-Some : goal.returns-in-Some
returns-in-Some c =
    let r = recorded_of c.args.record.now in
    let right : AreRight (scene_of c.args.plan.now) r c.in_ok-clocks.clocks.items = right_by (scene_of c.args.plan.now) _ c.in_ok-graph.graph.nodes.items c.in_ok-clocks.clocks.items c.in_ok-graph.ensures
    (are_parts (scene_of c.args.plan.now) _ c.requires.well_formed c.in_ok-tally.ensures (subst (λ (fs : List ℕ). AreFirsts (recorded_of c.args.record.now) fs) (sym c.deref-2.ensures.value) c.in_ok-firsts.ensures)
    (base_is (recorded_of c.args.record.now) c.in_ok-firsts.firsts.items c.len.result c.index-base.result.now c.in_ok-firsts.ensures (omega (arith, c.len.ensures, c.args.record.now.lists.ok.0, length_lists c.args.record.now)) c.index-base.ensures))
    c.in_ok-clocks.ensures c.requires.well_formed c.requires.legal c.in_ok-hubs.ensures.all c.in_ok-hubs.ensures.small in
    let first : FirstPast r c.in_ok-clocks.clocks.items (Some (c.in-Some.thread, c.in-Some.point)) = subst (λ (cs : List Clock). FirstPast r cs (Some (c.in-Some.thread, c.in-Some.point))) c.deref-3.ensures.value (subst (λ (o : Option (ℕ × ℕ)). FirstPast r c.deref-3.result.now o) c.in-Some.is c.in_ok-cycle.ensures) in
    first_cycle (scene_of c.args.plan.now) r c.in_ok-clocks.clocks.items right c.in_ok-clocks.ensures.count c.requires.follows (controls_apt (scene_of c.args.plan.now) r c.requires.well_formed) c.in-Some.thread c.in-Some.point first

pub returns : goal.returns
returns c =
    let r = recorded_of c.args.record.now in
    let right : AreRight (scene_of c.args.plan.now) r c.in_ok-clocks.clocks.items = right_by (scene_of c.args.plan.now) _ c.in_ok-graph.graph.nodes.items c.in_ok-clocks.clocks.items c.in_ok-graph.ensures
    (are_parts (scene_of c.args.plan.now) _ c.requires.well_formed c.in_ok-tally.ensures (subst (λ (fs : List ℕ). AreFirsts (recorded_of c.args.record.now) fs) (sym c.deref-2.ensures.value) c.in_ok-firsts.ensures)
    (base_is (recorded_of c.args.record.now) c.in_ok-firsts.firsts.items c.len.result c.index-base.result.now c.in_ok-firsts.ensures (omega (arith, c.len.ensures, c.args.record.now.lists.ok.0, length_lists c.args.record.now)) c.index-base.ensures))
    c.in_ok-clocks.ensures c.requires.well_formed c.requires.legal c.in_ok-hubs.ensures.all c.in_ok-hubs.ensures.small in
    let apt = controls_apt (scene_of c.args.plan.now) r c.requires.well_formed in
    let none : FirstPast r c.in_ok-clocks.clocks.items None = subst (λ (cs : List Clock). FirstPast r cs None) c.deref-3.ensures.value (subst (λ (o : Option (ℕ × ℕ)). FirstPast r c.deref-3.result.now o) c.in-None.is c.in_ok-cycle.ensures) in (
      record { tells = order_tells (scene_of c.args.plan.now) r c.in_ok-clocks.clocks.items right c.in_ok-clocks.ensures.count c.requires.follows apt c.in_ok-firsts.firsts.items c.in_ok-firsts.ensures },
      no_cycle (scene_of c.args.plan.now) r c.in_ok-clocks.clocks.items right c.in_ok-clocks.ensures.count c.requires.follows apt none,
    )
