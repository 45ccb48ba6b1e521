use Rattle.std.proofs.Common.{sym, ◌∙◌}
use Rattle.cx_scene.specs.Scene.{scene_of}
use Rattle.cx_items.specs.Steps.{local_of}
use Rattle.cx_replay.proofs.Fitting.{reply_is_reached}
use Rattle.cx_replay.proofs.runner.RunnerNow.make.Goals as goal

pub go_on-requires-in-Some : goal.go_on-requires-in-Some
go_on-requires-in-Some c =
    let s = scene_of c.args.plan.now in
    reply_is_reached s c.args.t.0 (local_of s c.args.t.0 c.go_on.new.self.local) c.in-Some.reply (sym c.due_reply_now.ensures ∙ c.in-Some.is)
