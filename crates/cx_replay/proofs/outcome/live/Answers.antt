use Rattle.cx_scene.specs.Scene.{scene_of}
use Rattle.cx_replay.proofs.Outcomes.{live_more, all_live}
use Rattle.cx_replay.proofs.outcome.live.Goals as goal

pub loop-i-preserved : goal.loop-i-preserved
loop-i-preserved c =
    live_more (scene_of c.args.plan.now) c.loop-i.i c.args.runners.now c.index-runners-i.result c.in_ok-t.t c.loop-i.threads.items c.push_live.new.threads.items c.loop-i-test.true c.index-runners-i.is c.in_ok-t.ensures c.in_ok-push_live.ensures c.loop-i.invariant

pub returns : goal.returns
returns c = all_live (scene_of c.args.plan.now) c.loop-i.i c.args.runners.now c.loop-i.threads.items c.loop-i-test.false c.loop-i.invariant
