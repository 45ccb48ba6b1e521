use Rattle.std.proofs.Common.{◌&&◌, suc, ◌-◌, List, [], ◌∷◌, ◌++◌, ltb, slice_get, IsTrue, refl, sym, ap, ◌∙◌, subst, arith}
use Rattle.std.specs.Global.{Vec}
use Rattle.std.specs.Arc.{arc_value}
use Rattle.std.specs.Vec.{with_items}
use Rattle.cx_scene.specs.declared.plan.Plan.{Plan}
use Rattle.cx_scene.specs.Scene.{scene_of}
use Rattle.cx_items.specs.declared.item.Control.TheVariants as controls
use Rattle.cx_items.specs.declared.item.Item.TheVariants as items
use Rattle.cx_history.specs.IsRecord.{can_start}
use Rattle.cx_work.specs.declared.objects.Objects.{Objects}
use Rattle.cx_work.specs.declared.standing.Standing.{Standing}
use Rattle.cx_kinds.specs.declared.access.Access.{Access}
use Rattle.cx_work.specs.declared.work.Work.{Work}
use Rattle.cx_work.specs.Bodies.{scene_in}
use Rattle.cx_work.specs.Steps.{IsAt}
use Rattle.cx_run.specs.declared.place.Place.TheVariants as places
use Rattle.cx_run.specs.declared.run.Run.{Run}
use Rattle.cx_run.specs.Runs.{tally, objects_at}
use Rattle.cx_run.specs.Handing.{AllAsBefore}
use Rattle.cx_run.proofs.Parts.{IsRenewed, same_at, at_zero, met_stands, vec_is, waits_here, ready_accesses, met_needs, begun_kept, begun_run, begun_tally}
use Rattle.cx_run.proofs.Joined.{begun_keeps}
use Rattle.cx_run.proofs.Mains.{start_within, starts_waiting, waits_some, waits_as, begun_mains}
use Rattle.cx_run.proofs.Stepped.{own_as, others_as, before_as, meets_as, here_as, here_low, names_here, left_run, start_fits, taken_fits}
use Rattle.cx_run.proofs.run.Run.start.Goals as goal

pub meet_all-requires-clause-from : goal.meet_all-requires-clause-from
meet_all-requires-clause-from g c =
    let l = c.leave.new.self in
    let u = c.args.u in
    let r : Run g.row.G.Denot = record { objects = l.objects; main = l.main; others = c.args.self.now.others } in
    let run = left_run c.args.self.now l c.requires.run c.leave.ensures.parts in
    (0, own_as (objects_at c.args.self.now) c.as_mut_slice.result.now r.main.accesses.items 0 c.as_mut_slice.ensures.value run.kept.accesses)

pub meet_all-requires-clause-to : goal.meet_all-requires-clause-to
meet_all-requires-clause-to g c =
    let l = c.leave.new.self in
    let u = c.args.u in
    let r : Run g.row.G.Denot = record { objects = l.objects; main = l.main; others = c.args.self.now.others } in
    let run = left_run c.args.self.now l c.requires.run c.leave.ensures.parts in
    let w = c.unwrap-work.result in
    let h = here_as u.0 c.leave.result (places.Waiting w) r.others.items l.others.items (waits_as c.leave.result c.into_work.result c.unwrap-work.result c.unwrap-work.ensures c.into_work.ensures) c.leave.ensures.here in
    (suc (u.0 - 1), others_as (objects_at c.args.self.now) c.as_mut_slice.result.now r.main.accesses.items c.as_mut_slice-2.result.now w.standing.accesses.items 0 (suc (u.0 - 1)) c.as_mut_slice.ensures.value c.as_mut_slice-2.ensures.value run.kept.accesses (ready_accesses (scene_in r.objects) (objects_at c.args.self.now) (suc (u.0 - 1)) w (waits_here r u w l.others.items run h)))

pub begin-place-requires-clause-needs : goal.begin-place-requires-clause-needs
begin-place-requires-clause-needs g c κs within =
    let l = c.leave.new.self in
    let u = c.args.u in
    let r : Run g.row.G.Denot = record { objects = l.objects; main = l.main; others = c.args.self.now.others } in
    let run = left_run c.args.self.now l c.requires.run c.leave.ensures.parts in
    let w = c.unwrap-work.result in
    let h = here_as u.0 c.leave.result (places.Waiting w) r.others.items l.others.items (waits_as c.leave.result c.into_work.result c.unwrap-work.result c.unwrap-work.ensures c.into_work.ensures) c.leave.ensures.here in
    let meets = meets_as c.as_mut_slice.result.now r.main.accesses.items c.as_mut_slice-2.result.now w.standing.accesses.items c.meet_all.new.to c.as_mut_slice.ensures.value c.as_mut_slice-2.ensures.value c.meet_all.ensures.to in
    let w' : Work g.row.G.Denot = record w { standing = record w.standing { accesses = with_items w.standing.accesses c.meet_all.new.to } } in
    let renewed : IsRenewed w w' c.meet_all.new.to = record { objects = refl; thread = refl; list = refl; local = refl; accesses = vec_is w.standing.accesses c.meet_all.new.to meets.count } in
    met_needs (scene_in r.objects) (objects_at c.args.self.now) (suc (u.0 - 1)) r.main.accesses.items c.meet_all.new.to w w' (waits_here r u w l.others.items run h) run.kept.accesses meets renewed

pub index_mut-requires : goal.index_mut-requires
index_mut-requires g c =
    let l = c.leave.new.self in
    let u = c.args.u in
    let r : Run g.row.G.Denot = record { objects = l.objects; main = l.main; others = c.args.self.now.others } in
    let run = left_run c.args.self.now l c.requires.run c.leave.ensures.parts in
    let w = c.unwrap-work.result in
    let h = here_as u.0 c.leave.result (places.Waiting w) r.others.items l.others.items (waits_as c.leave.result c.into_work.result c.unwrap-work.result c.unwrap-work.ensures c.into_work.ensures) c.leave.ensures.here in
    let low = here_low u.0 (places.Waiting w) r.others.items l.others.items h in
    let long = l.others.ok.0 in
    omega (arith, low, long)

pub take-requires-clause-formed : goal.take-requires-clause-formed
take-requires-clause-formed g c =
    let l = c.leave.new.self in
    let u = c.args.u in
    let r : Run g.row.G.Denot = record { objects = l.objects; main = l.main; others = c.args.self.now.others } in
    let run = left_run c.args.self.now l c.requires.run c.leave.ensures.parts in
    let w = c.unwrap-work.result in
    let h = here_as u.0 c.leave.result (places.Waiting w) r.others.items l.others.items (waits_as c.leave.result c.into_work.result c.unwrap-work.result c.unwrap-work.ensures c.into_work.ensures) c.leave.ensures.here in
    subst (λ (p : Plan). IsTrue (ltb 0 u.0 && can_start (slice_get p.threads.items u.0))) (sym c.deref.ensures) (names_here r u (places.Waiting w) l.others.items run h)

pub take-requires-clause-at : goal.take-requires-clause-at
take-requires-clause-at g c =
    let l = c.leave.new.self in
    let u = c.args.u in
    let r : Run g.row.G.Denot = record { objects = l.objects; main = l.main; others = c.args.self.now.others } in
    let run = left_run c.args.self.now l c.requires.run c.leave.ensures.parts in
    let same' = before_as c.as_mut_slice.result.now r.main.accesses.items c.meet_all.new.from c.as_mut_slice.ensures.value c.meet_all.ensures.from in
    let at_ = same_at (scene_in r.objects) (objects_at c.args.self.now) 0 r.main.accesses.items c.meet_all.new.from r.main.list.items r.main.local run.kept.accesses same' (at_zero run) in
    met_stands _ r.main.thread r.main.accesses c.meet_all.new.from r.main.list.items r.main.local _ c.deref.ensures run.kept.thread (vec_is r.main.accesses c.meet_all.new.from same'.count) at_

pub returns-in_err-take-clause-kept : goal.returns-in_err-take-clause-kept
returns-in_err-take-clause-kept g c =
    let l = c.leave.new.self in
    let u = c.args.u in
    let r : Run g.row.G.Denot = record { objects = l.objects; main = l.main; others = c.args.self.now.others } in
    let run = left_run c.args.self.now l c.requires.run c.leave.ensures.parts in
    let w = c.unwrap-work.result in
    let h = here_as u.0 c.leave.result (places.Waiting w) r.others.items l.others.items (waits_as c.leave.result c.into_work.result c.unwrap-work.result c.unwrap-work.ensures c.into_work.ensures) c.leave.ensures.here in
    let meets = meets_as c.as_mut_slice.result.now r.main.accesses.items c.as_mut_slice-2.result.now w.standing.accesses.items c.meet_all.new.to c.as_mut_slice.ensures.value c.as_mut_slice-2.ensures.value c.meet_all.ensures.to in
    let w' : Work g.row.G.Denot = record w { standing = record w.standing { accesses = with_items w.standing.accesses c.meet_all.new.to } } in
    let renewed : IsRenewed w w' c.meet_all.new.to = record { objects = refl; thread = refl; list = refl; local = refl; accesses = vec_is w.standing.accesses c.meet_all.new.to meets.count } in
    let same' = before_as c.as_mut_slice.result.now r.main.accesses.items c.meet_all.new.from c.as_mut_slice.ensures.value c.meet_all.ensures.from in
    let is_accesses = ap (λ (v : Vec Access). v.items) c.take.ensures.same.1 ∙ vec_is r.main.accesses c.meet_all.new.from same'.count in
    let same = subst (λ (k : List Access). AllAsBefore r.main.accesses.items k) (sym is_accesses) same' in
    begun_kept r _ u w w' c.meet_all.new.to l.others.items c.begin-place.result.1 c.begin-place.result.0 run h same meets renewed c.begin-place.ensures.place refl c.take.ensures.same.0 refl

pub returns-clause-kept : goal.returns-clause-kept
returns-clause-kept g c =
    let l = c.leave.new.self in
    let u = c.args.u in
    let r : Run g.row.G.Denot = record { objects = l.objects; main = l.main; others = c.args.self.now.others } in
    let run = left_run c.args.self.now l c.requires.run c.leave.ensures.parts in
    let w = c.unwrap-work.result in
    let h = here_as u.0 c.leave.result (places.Waiting w) r.others.items l.others.items (waits_as c.leave.result c.into_work.result c.unwrap-work.result c.unwrap-work.ensures c.into_work.ensures) c.leave.ensures.here in
    let meets = meets_as c.as_mut_slice.result.now r.main.accesses.items c.as_mut_slice-2.result.now w.standing.accesses.items c.meet_all.new.to c.as_mut_slice.ensures.value c.as_mut_slice-2.ensures.value c.meet_all.ensures.to in
    let w' : Work g.row.G.Denot = record w { standing = record w.standing { accesses = with_items w.standing.accesses c.meet_all.new.to } } in
    let renewed : IsRenewed w w' c.meet_all.new.to = record { objects = refl; thread = refl; list = refl; local = refl; accesses = vec_is w.standing.accesses c.meet_all.new.to meets.count } in
    let same' = before_as c.as_mut_slice.result.now r.main.accesses.items c.meet_all.new.from c.as_mut_slice.ensures.value c.meet_all.ensures.from in
    let is_accesses = ap (λ (v : Vec Access). v.items) c.take.ensures.same.1 ∙ vec_is r.main.accesses c.meet_all.new.from same'.count in
    let same = subst (λ (k : List Access). AllAsBefore r.main.accesses.items k) (sym is_accesses) same' in
    begun_kept r _ u w w' c.meet_all.new.to l.others.items c.begin-place.result.1 c.begin-place.result.0 run h same meets renewed c.begin-place.ensures.place refl c.take.ensures.same.0 refl

pub returns-clause-run : goal.returns-clause-run
returns-clause-run g c =
    let l = c.leave.new.self in
    let u = c.args.u in
    let r : Run g.row.G.Denot = record { objects = l.objects; main = l.main; others = c.args.self.now.others } in
    let run = left_run c.args.self.now l c.requires.run c.leave.ensures.parts in
    let w = c.unwrap-work.result in
    let h = here_as u.0 c.leave.result (places.Waiting w) r.others.items l.others.items (waits_as c.leave.result c.into_work.result c.unwrap-work.result c.unwrap-work.ensures c.into_work.ensures) c.leave.ensures.here in
    let meets = meets_as c.as_mut_slice.result.now r.main.accesses.items c.as_mut_slice-2.result.now w.standing.accesses.items c.meet_all.new.to c.as_mut_slice.ensures.value c.as_mut_slice-2.ensures.value c.meet_all.ensures.to in
    let w' : Work g.row.G.Denot = record w { standing = record w.standing { accesses = with_items w.standing.accesses c.meet_all.new.to } } in
    let renewed : IsRenewed w w' c.meet_all.new.to = record { objects = refl; thread = refl; list = refl; local = refl; accesses = vec_is w.standing.accesses c.meet_all.new.to meets.count } in
    let same' = before_as c.as_mut_slice.result.now r.main.accesses.items c.meet_all.new.from c.as_mut_slice.ensures.value c.meet_all.ensures.from in
    let is_accesses = ap (λ (v : Vec Access). v.items) c.take.ensures.same.1 ∙ vec_is r.main.accesses c.meet_all.new.from same'.count in
    let same = subst (λ (k : List Access). AllAsBefore r.main.accesses.items k) (sym is_accesses) same' in
    let at_ = subst (λ (p : Plan). IsAt (scene_of p) c.take.new.self) c.deref.ensures c.in_ok-take.ensures.at in
    begun_run r _ u w w' c.meet_all.new.to l.others.items c.begin-place.result.1 c.begin-place.result.0 run h same meets renewed c.begin-place.ensures.place refl c.take.ensures.same.0 refl c.in_ok-take.ensures.list at_

pub returns-clause-tally : goal.returns-clause-tally
returns-clause-tally g c =
    let l = c.leave.new.self in
    let u = c.args.u in
    let r : Run g.row.G.Denot = record { objects = l.objects; main = l.main; others = c.args.self.now.others } in
    let run = left_run c.args.self.now l c.requires.run c.leave.ensures.parts in
    let w = c.unwrap-work.result in
    let h = here_as u.0 c.leave.result (places.Waiting w) r.others.items l.others.items (waits_as c.leave.result c.into_work.result c.unwrap-work.result c.unwrap-work.ensures c.into_work.ensures) c.leave.ensures.here in
    let before = tally (g.P.Spawner.faults c.args.spawner.now) (g.P.Spawner.started c.args.spawner.now) (g.P.Spawner.carried c.args.spawner.now) in
    let now = tally (g.P.Spawner.faults c.begin-place.new.spawner) (g.P.Spawner.started c.begin-place.new.spawner) (g.P.Spawner.carried c.begin-place.new.spawner) in
    let grown = c.in_ok-take.ensures.list ∙ ap (λ (x : Standing). x.list.items ++ items.Control (controls.Start u c.begin-place.result.1) ∷ []) c.leave.ensures.parts.1 in
    begun_tally before now c.args.self.now.main.list.items c.take.new.self.list.items r.others.items l.others.items _ u w _ c.begin-place.result.1 c.begin-place.result.0 h c.begin-place.ensures.place refl grown c.begin-place.ensures.tally

pub take-requires-clause-fits : goal.take-requires-clause-fits
take-requires-clause-fits g c =
    let v = c.args.self.now in
    let l = c.leave.new.self in
    let u = c.args.u in
    let run = left_run v l c.requires.run c.leave.ensures.parts in
    let is_plan = c.deref.ensures ∙ ap (λ (o : Objects). arc_value o.plan) c.leave.ensures.parts.0 in
    taken_fits c.deref.result.now (arc_value v.objects.plan) l.main.thread v.main.local l.main.local _ (items.Control (controls.Start u c.begin-place.result.1)) is_plan run.kept.thread (ap (λ (x : Standing). x.local) c.leave.ensures.parts.1) c.requires.next (start_fits (scene_in v.objects) u c.begin-place.result.1)

pub leave-requires-clause-there : goal.leave-requires-clause-there
leave-requires-clause-there g c κs within = start_within c.args.self.now c.requires.run c.args.u _ c.requires.next

pub returns-clause-mains : goal.returns-clause-mains
returns-clause-mains g c =
    let l = c.leave.new.self in
    let u = c.args.u in
    let r : Run g.row.G.Denot = record { objects = l.objects; main = l.main; others = c.args.self.now.others } in
    let w = c.unwrap-work.result in
    let h = here_as u.0 c.leave.result (places.Waiting w) r.others.items l.others.items (waits_as c.leave.result c.into_work.result c.unwrap-work.result c.unwrap-work.ensures c.into_work.ensures) c.leave.ensures.here in
    let grown = c.in_ok-take.ensures.list ∙ ap (λ (x : Standing). x.list.items ++ items.Control (controls.Start u c.begin-place.result.1) ∷ []) c.leave.ensures.parts.1 in
    begun_mains c.args.self.now.main.list.items c.take.new.self.list.items u _ c.begin-place.result.1 (places.Waiting w) c.begin-place.result.0 r.others.items l.others.items _ c.requires.mains h c.begin-place.ensures.place refl grown

pub returns-clause-out : goal.returns-clause-out
returns-clause-out g c =
    let l = c.leave.new.self in
    let u = c.args.u in
    let r : Run g.row.G.Denot = record { objects = l.objects; main = l.main; others = c.args.self.now.others } in
    let w = c.unwrap-work.result in
    let h = here_as u.0 c.leave.result (places.Waiting w) r.others.items l.others.items (waits_as c.leave.result c.into_work.result c.unwrap-work.result c.unwrap-work.ensures c.into_work.ensures) c.leave.ensures.here in
    let before = tally (g.P.Spawner.faults c.args.spawner.now) (g.P.Spawner.started c.args.spawner.now) (g.P.Spawner.carried c.args.spawner.now) in
    let now = tally (g.P.Spawner.faults c.begin-place.new.spawner) (g.P.Spawner.started c.begin-place.new.spawner) (g.P.Spawner.carried c.begin-place.new.spawner) in
    begun_keeps before now r.others.items l.others.items _ u w _ c.begin-place.result.1 c.begin-place.result.0 _ _ h c.begin-place.ensures.place refl c.begin-place.ensures.tally c.begin-place.ensures.joins

pub returns-in_err-take-clause-out : goal.returns-in_err-take-clause-out
returns-in_err-take-clause-out g c =
    let l = c.leave.new.self in
    let u = c.args.u in
    let r : Run g.row.G.Denot = record { objects = l.objects; main = l.main; others = c.args.self.now.others } in
    let w = c.unwrap-work.result in
    let h = here_as u.0 c.leave.result (places.Waiting w) r.others.items l.others.items (waits_as c.leave.result c.into_work.result c.unwrap-work.result c.unwrap-work.ensures c.into_work.ensures) c.leave.ensures.here in
    let before = tally (g.P.Spawner.faults c.args.spawner.now) (g.P.Spawner.started c.args.spawner.now) (g.P.Spawner.carried c.args.spawner.now) in
    let now = tally (g.P.Spawner.faults c.begin-place.new.spawner) (g.P.Spawner.started c.begin-place.new.spawner) (g.P.Spawner.carried c.begin-place.new.spawner) in
    begun_keeps before now r.others.items l.others.items _ u w _ c.begin-place.result.1 c.begin-place.result.0 _ _ h c.begin-place.ensures.place refl c.begin-place.ensures.tally c.begin-place.ensures.joins

pub unwrap-work-requires : goal.unwrap-work-requires
unwrap-work-requires g c = waits_some c.leave.result c.into_work.result (starts_waiting c.args.self.now c.requires.run c.args.u _ c.leave.result c.leave.new.self.others.items c.requires.next c.requires.mains c.leave.ensures.here) c.into_work.ensures
