use Rattle.std.proofs.Common.{◌++◌, [], ◌∷◌, ap, sym, Some, ◌∙◌, arith, append-nil}
use Rattle.cx_scene.specs.Scene.{scene_of}
use Rattle.cx_replay.proofs.Outcomes.{opened_with, one_more}
use Rattle.cx_replay.proofs.outcome.opening_runners.Goals as goal

pub loop-other-init : goal.loop-other-init
loop-other-init c = sym (append-nil c.push.new.self.items)

pub loop-other-preserved : goal.loop-other-preserved
loop-other-preserved c = one_more c.loop-other._other c.push.new.self.items c.loop-other.runners.items c.push-in-loop-other.new.self.items c.loop-other.invariant c.in_ok-push-2.ensures.items

pub returns : goal.returns
returns c = opened_with (scene_of c.args.plan.now) c.args.plan.now.threads.items c.in_ok-main.main c.loop-other._other c.loop-other.runners.items c.push.new.self.items c.loop-other.invariant (c.in_ok-push.ensures.items ∙ ap (λ v. v ++ Some c.in_ok-main.main ∷ []) c.new-runners.ensures.items) (omega arith) c.in_ok-main.ensures
