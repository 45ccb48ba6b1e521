use Rattle.std.proofs.Common.{refl}
use Rattle.cx_scene.specs.Scene.{scene_of}
use Rattle.cx_work.proofs.Bodying.{goes_first, body_of, own_accesses, given_up}
use Rattle.cx_work.proofs.work.make_body.Goals as goal

pub make_all-requires-clause-under_way : goal.make_all-requires-clause-under_way
make_all-requires-clause-under_way g c = λ _ _. goes_first (scene_of c.args.plan.now) c.args.standing.thread.0 c.args.standing.accesses.items c.args.standing.list.items c.args.standing.local c.requires.fresh c.requires.accesses c.requires.at

pub returns-in-Ok-clause-body : goal.returns-in-Ok-clause-body
returns-in-Ok-clause-body g c = λ done. body_of (scene_of c.args.plan.now) c.args.standing.accesses.items c.make_all.new.standing.thread c.end.result.thread c.make_all.new.standing.accesses c.end.result.accesses c.make_all.new.standing.list c.end.result.list c.make_all.new.standing.local c.end.ensures.thread c.end.ensures.accesses (c.end.ensures.list refl) c.in-Ok.ensures.under_way c.in-Ok.ensures.ended

pub give_up-requires : goal.give_up-requires
give_up-requires g c = own_accesses c.args.standing.accesses.items c.make_all.new.standing.thread.0 c.make_all.new.standing.accesses.items c.make_all.ensures.accesses

pub returns-in-Err-clause-accesses : goal.returns-in-Err-clause-accesses
returns-in-Err-clause-accesses g c =
    let v = c.make_all.new.standing in
    let w = c.give_up.new.self in
    let e = c.end-in-Err.result in
    given_up c.args.standing.accesses.items v.accesses.items v.thread w.thread e.thread w.accesses e.accesses c.give_up.ensures.thread c.end-in-Err.ensures.thread c.end-in-Err.ensures.accesses c.make_all.ensures.accesses c.give_up.ensures.accesses
