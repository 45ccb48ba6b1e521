use Rattle.std.proofs.Common.{subst, sym}
use Rattle.cx_scene.specs.Scene.{Scene}
use Rattle.cx_replay.specs.Schedule.{IsLight}
use Rattle.cx_replay.proofs.Lightness.{script_is_light}
use Rattle.cx_record_tests.proofs.replay.plan_replayed.Goals as goal

pub replay_plan-requires : goal.replay_plan-requires
replay_plan-requires c = subst (λ (s : Scene). IsLight s) (sym c.plan.ensures.plan) (script_is_light _ c.plan.ensures.meant)
