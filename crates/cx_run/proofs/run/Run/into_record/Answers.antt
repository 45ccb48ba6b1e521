use Rattle.std.proofs.Common.{◌∷◌, List, map, Some, sym, ap, ◌∙◌, subst}
use Rattle.std.proofs.lemmas.List.{map-id}
use Rattle.std.proofs.lemmas.Iterator.Consumers.{YieldsList-end}
use Rattle.std.proofs.lemmas.Iterator.Adapters.{YieldsList-from_vec}
use Rattle.cx_scene.specs.declared.plan.Plan.{Plan}
use Rattle.cx_history.specs.Histories.{Recorded}
use Rattle.cx_work.specs.Bodies.{scene_in}
use Rattle.cx_run.specs.declared.place.Place.{Place}
use Rattle.cx_run.specs.Runs.{list_at, objects_at}
use Rattle.cx_run.specs.Results.{IsRightRun, changes_elsewhere}
use Rattle.cx_run.proofs.Righting.{right_run, whole_list, recorded_is}
use Rattle.cx_run.proofs.Tallying.{steps_are}
use Rattle.cx_run.proofs.run.Run.into_record.Goals as goal

pub returns-clause-right : goal.returns-clause-right
returns-clause-right g c =
    let r = c.args.self in
    let run = c.requires.run in
    let end = YieldsList-end (YieldsList-from_vec r.others.items c.into_iter-place-iterator.ensures.into_iter_gives.0 (c.into_iter-place-iterator.ensures.into_iter_gives.1 ∙ r.others.ok.0)) c.loop-place.yielded c.loop-place.place-iterator c.loop-place.yielded_by c.next.result c.next.new.self c.in-None.is c.next.ensures.steps in
    let lists = c.loop-place.invariant.2 ∙ ap (λ (ps : List (Place g.row.G.Denot)). Some r.main.list.items ∷ map list_at ps) (sym (map-id c.loop-place.yielded) ∙ end.0) in
    let is = recorded_is _ _ _ _ (ap (λ (p : Plan). p.version) c.deref.ensures) lists in
    let own = whole_list (scene_in r.objects) r.main.thread.0 r.main.accesses.items run.goes.f r.main.list.items r.main.local run.kept.thread run.at_ run.goes.shown c.requires.ended in
    subst (λ (z : Recorded). IsRightRun (scene_in r.objects) (objects_at r) z r.main.accesses.items) (sym is)
    (right_run (scene_in r.objects) (objects_at r) r.main.list.items r.main.accesses.items r.others.items run.goes c.requires.come run.kept.made run.kept.accesses own)

pub returns-clause-steps : goal.returns-clause-steps
returns-clause-steps g c =
    let r = c.args.self in
    let end = YieldsList-end (YieldsList-from_vec r.others.items c.into_iter-place-iterator.ensures.into_iter_gives.0 (c.into_iter-place-iterator.ensures.into_iter_gives.1 ∙ r.others.ok.0)) c.loop-place.yielded c.loop-place.place-iterator c.loop-place.yielded_by c.next.result c.next.new.self c.in-None.is c.next.ensures.steps in
    let lists = c.loop-place.invariant.2 ∙ ap (λ (ps : List (Place g.row.G.Denot)). Some r.main.list.items ∷ map list_at ps) (sym (map-id c.loop-place.yielded) ∙ end.0) in
    let is = recorded_is _ _ _ _ (ap (λ (p : Plan). p.version) c.deref.ensures) lists in
    ap changes_elsewhere is ∙ steps_are r.others.items
