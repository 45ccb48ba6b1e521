use Rattle.std.proofs.Common.{subst, sym}
use Rattle.cx_scene.specs.Scene.{Scene}
use Rattle.cx_script.specs.Numbered.{numbered}
use Rattle.cx_replay.specs.Schedule.{Replays, IsLight}
use Rattle.cx_replay.specs.Views.{replayed_of}
use Rattle.cx_replay.proofs.Scenes.{script_apt}
use Rattle.cx_replay.proofs.Lightness.{script_is_light}
use Rattle.cx_replay.proofs.Mains.{script_starts}
use Rattle.cx_replay.proofs.Standings.{right, formed, can_end}
use Rattle.cx_replay.proofs.of_scenario.replay.Goals as goal

pub returns-clause-right : goal.returns-clause-right
returns-clause-right c =
    right c.in_ok-replayed.replayed (numbered c.args.scenario.now) c.args.seed (script_starts c.args.scenario.now c.plan.ensures.meant)
    (subst (λ (s : Scene). Replays s c.args.seed (replayed_of c.in_ok-replayed.replayed)) c.plan.ensures.plan c.in_ok-replayed.ensures.outcome)

pub returns-clause-can_end : goal.returns-clause-can_end
returns-clause-can_end c =
    can_end c.in_ok-replayed.replayed c.args.scenario.now c.plan.ensures.meant
    (right c.in_ok-replayed.replayed (numbered c.args.scenario.now) c.args.seed (script_starts c.args.scenario.now c.plan.ensures.meant)
    (subst (λ (s : Scene). Replays s c.args.seed (replayed_of c.in_ok-replayed.replayed)) c.plan.ensures.plan c.in_ok-replayed.ensures.outcome))

pub returns-clause-well_formed : goal.returns-clause-well_formed
returns-clause-well_formed c =
    formed c.in_ok-replayed.replayed (numbered c.args.scenario.now) c.args.seed (script_apt c.args.scenario.now c.plan.ensures.meant) (script_starts c.args.scenario.now c.plan.ensures.meant)
    (subst (λ (s : Scene). Replays s c.args.seed (replayed_of c.in_ok-replayed.replayed)) c.plan.ensures.plan c.in_ok-replayed.ensures.outcome)
    (script_is_light c.args.scenario.now c.plan.ensures.meant)

pub replay_plan-requires : goal.replay_plan-requires
replay_plan-requires c = subst (λ (s : Scene). IsLight s) (sym c.plan.ensures.plan) (script_is_light c.args.scenario.now c.plan.ensures.meant)
