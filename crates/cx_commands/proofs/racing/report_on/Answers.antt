use Rattle.std.proofs.Common.{ℕ, List, ap, ◌∙◌}
use Rattle.cx_scene.specs.Scene.{scene_of}
use Rattle.cx_script.specs.Numbered.{numbered}
use Rattle.cx_history.specs.Views.{recorded_of}
use Rattle.cx_races.specs.Report.{cycle_line}
use Rattle.cx_order.specs.Points.{point}
use Rattle.cx_order.specs.Order.{IsOrderOf}
use Rattle.cx_order.specs.Edges.{HasNoCycle}
use Rattle.cx_commands.proofs.Raced.{formed_as, legal_as, follows_as, ordered_as}
use Rattle.cx_commands.proofs.racing.report_on.Goals as goal

pub order_of-requires-clause-well_formed : goal.order_of-requires-clause-well_formed
order_of-requires-clause-well_formed c = formed_as (scene_of c.plan.result.now) (numbered c.args.scenario.now) (recorded_of c.args.recorded.now) c.plan.ensures.plan c.requires.well_formed

pub order_of-requires-clause-legal : goal.order_of-requires-clause-legal
order_of-requires-clause-legal c = legal_as (scene_of c.plan.result.now) (numbered c.args.scenario.now) (recorded_of c.args.recorded.now) c.plan.ensures.plan c.requires.flawless.legal

pub order_of-requires-clause-follows : goal.order_of-requires-clause-follows
order_of-requires-clause-follows c = follows_as (scene_of c.plan.result.now) (numbered c.args.scenario.now) (recorded_of c.args.recorded.now) c.plan.ensures.plan c.requires.flawless.follows

pub returns-in_ok-line-in-Cycle : goal.returns-in_ok-line-in-Cycle
returns-in_ok-line-in-Cycle c =
    let o = ordered_as (scene_of c.plan.result.now) (numbered c.args.scenario.now) (recorded_of c.args.recorded.now) c.in_ok-ordered.ordered c.plan.ensures.plan c.in_ok-ordered.ensures in
    record { point = point c.in-Cycle.thread.0 c.in-Cycle.point; first = rw c.in-Cycle.is at o; line_is = c.in_ok-line-in-Cycle.ensures ∙ ap (λ (n : List ℕ). cycle_line n c.in-Cycle.point) c.thread_name.ensures }

pub returns-in_ok-text-in-Order : goal.returns-in_ok-text-in-Order
returns-in_ok-text-in-Order c =
    let o = ordered_as (scene_of c.plan.result.now) (numbered c.args.scenario.now) (recorded_of c.args.recorded.now) c.in_ok-ordered.ordered c.plan.ensures.plan c.in_ok-ordered.ensures in
    let p : IsOrderOf (numbered c.args.scenario.now) (recorded_of c.args.recorded.now) c.in-Order.order × HasNoCycle (numbered c.args.scenario.now) (recorded_of c.args.recorded.now) = rw c.in-Order.is at o in
    record { no_cycle = p.1; reports = c.in_ok-text-in-Order.ensures c.args.scenario.now (recorded_of c.args.recorded.now) p.0 c.requires.points }
