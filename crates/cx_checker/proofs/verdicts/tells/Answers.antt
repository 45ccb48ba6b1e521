use Rattle.std.proofs.Common.{rules, length, ◌<◌, Some}
use Rattle.cx_scene.specs.Scene.{scene_of}
use Rattle.cx_history.specs.Views.{recorded_of}
use Rattle.cx_checker.specs.Looks.{left_in}
use Rattle.cx_checker.proofs.Telling.{good_look, rest_look}
use Rattle.cx_checker.proofs.verdicts.tells.Goals as goal

pub returns-clause-good : goal.returns-clause-good
returns-clause-good c = λ rest tell.
    let low : c.args.o.0 < length c.args.all.now.items = search rules in
    (good_look (scene_of c.args.plan.now) (recorded_of c.args.record.now) c.args.all.now.items c.args.o c.args.look c.index_mut.result.now (left_in (Some c.take-verdict.new.self)) c.take-verdict.result rest low c.index_mut.ensures.value c.take-verdict.ensures tell).0

pub returns-clause-rest : goal.returns-clause-rest
returns-clause-rest c = λ rest tell.
    let low : c.args.o.0 < length c.args.all.now.items = search rules in
    rest_look (scene_of c.args.plan.now) (recorded_of c.args.record.now) c.args.all.now.items c.args.o c.args.look c.index_mut.result.now c.take-verdict.new.self c.take-verdict.result rest low c.index_mut.ensures.value c.take-verdict.ensures tell
