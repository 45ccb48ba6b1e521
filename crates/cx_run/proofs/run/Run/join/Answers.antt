use Rattle.std.proofs.Common.{◌&&◌, length, suc, ◌-◌, List, [], ◌∷◌, ◌++◌, ltb, slice_set, slice_get, IsTrue, refl, sym, ap, ◌∙◌, subst, arith}
use Rattle.std.specs.Global.{Vec}
use Rattle.std.specs.Arc.{arc_value}
use Rattle.cx_scene.specs.declared.plan.Plan.{Plan}
use Rattle.cx_scene.specs.Scene.{scene_of}
use Rattle.cx_items.specs.declared.item.Control.TheVariants as controls
use Rattle.cx_items.specs.declared.item.Item.{Item}
use Rattle.cx_items.specs.declared.item.Item.TheVariants as items
use Rattle.cx_history.specs.IsRecord.{can_start}
use Rattle.cx_work.specs.declared.objects.Objects.{Objects}
use Rattle.cx_work.specs.declared.standing.Standing.{Standing}
use Rattle.cx_kinds.specs.declared.access.Access.{Access}
use Rattle.cx_work.specs.Bodies.{scene_in}
use Rattle.cx_work.specs.Steps.{IsAt}
use Rattle.cx_run.specs.declared.place.Place.{Place}
use Rattle.cx_run.specs.declared.place.Place.TheVariants as places
use Rattle.cx_run.specs.declared.run.Run.{Run}
use Rattle.cx_run.specs.Runs.{tally, objects_at, IsAwaited}
use Rattle.cx_run.proofs.Parts.{awaited_at, joined_stands, any_left_kept, runs_here, off_may, set_kept, joined_run, joined_tally}
use Rattle.cx_run.proofs.Joined.{joined_keeps, left_keeps}
use Rattle.cx_run.proofs.Mains.{join_within, joins_running, runs_some, runs_as, joined_mains}
use Rattle.cx_run.proofs.Stepped.{here_as, here_low, names_here, left_run, own_run, own_kept, back_kept, back_run, join_fits, taken_fits}
use Rattle.cx_run.proofs.run.Run.join.Goals as goal

pub leave-requires-clause-there : goal.leave-requires-clause-there
leave-requires-clause-there g c κs within = join_within c.args.self.now c.requires.run c.args.u c.requires.next

pub await_end-requires-clause-kept : goal.await_end-requires-clause-kept
await_end-requires-clause-kept g c κs within = own_kept c.leave.new.self (any_left_kept c.args.self.now c.leave.new.self c.args.u c.leave.result c.requires.run.kept c.leave.ensures.parts c.leave.ensures.here)

pub await_end-requires-clause-may : goal.await_end-requires-clause-may
await_end-requires-clause-may g c κs within =
    let l = c.leave.new.self in
    let u = c.args.u in
    let r : Run g.row.G.Denot = record { objects = l.objects; main = l.main; others = c.args.self.now.others } in
    let run_0 = left_run c.args.self.now l c.requires.run c.leave.ensures.parts in
    let run = own_run r run_0 in
    let t = c.unwrap-thread.result in
    let h = here_as u.0 c.leave.result (places.Running t) r.others.items l.others.items (runs_as c.leave.result c.into_thread.result c.unwrap-thread.result c.unwrap-thread.ensures c.into_thread.ensures) c.leave.ensures.here in
    off_may (scene_in r.objects) (objects_at r) (suc (u.0 - 1)) (run.goes.first (suc (u.0 - 1))) t (omega arith) (runs_here r (u.0 - 1) t run h.was)

pub index_mut-requires : goal.index_mut-requires
index_mut-requires g c =
    let l = c.leave.new.self in
    let u = c.args.u in
    let r : Run g.row.G.Denot = record { objects = l.objects; main = l.main; others = c.args.self.now.others } in
    let run_0 = left_run c.args.self.now l c.requires.run c.leave.ensures.parts in
    let run = own_run r run_0 in
    let t = c.unwrap-thread.result in
    let h = here_as u.0 c.leave.result (places.Running t) r.others.items l.others.items (runs_as c.leave.result c.into_thread.result c.unwrap-thread.result c.unwrap-thread.ensures c.into_thread.ensures) c.leave.ensures.here in
    let low = here_low u.0 (places.Running t) r.others.items l.others.items h in
    let long = c.await_end.new.self.others.ok.0 in
    let same = ap (λ (v : Vec (Place g.row.G.Denot)). length v.items) c.in_ok-list.ensures.parts.1 in
    omega (arith, low, long, same)

pub take-requires-clause-formed : goal.take-requires-clause-formed
take-requires-clause-formed g c =
    let l = c.leave.new.self in
    let u = c.args.u in
    let r : Run g.row.G.Denot = record { objects = l.objects; main = l.main; others = c.args.self.now.others } in
    let run_0 = left_run c.args.self.now l c.requires.run c.leave.ensures.parts in
    let run = own_run r run_0 in
    let t = c.unwrap-thread.result in
    let h = here_as u.0 c.leave.result (places.Running t) r.others.items l.others.items (runs_as c.leave.result c.into_thread.result c.unwrap-thread.result c.unwrap-thread.ensures c.into_thread.ensures) c.leave.ensures.here in
    let is_plan = c.deref.ensures ∙ ap (λ (o : Objects). arc_value o.plan) c.in_ok-list.ensures.parts.0 in
    subst (λ (p : Plan). IsTrue (ltb 0 u.0 && can_start (slice_get p.threads.items u.0))) (sym is_plan) (names_here r u (places.Running t) l.others.items run h)

pub take-requires-clause-at : goal.take-requires-clause-at
take-requires-clause-at g c =
    let l = c.leave.new.self in
    let u = c.args.u in
    let r : Run g.row.G.Denot = record { objects = l.objects; main = l.main; others = c.args.self.now.others } in
    let run_0 = left_run c.args.self.now l c.requires.run c.leave.ensures.parts in
    let run = own_run r run_0 in
    let t = c.unwrap-thread.result in
    let h = here_as u.0 c.leave.result (places.Running t) r.others.items l.others.items (runs_as c.leave.result c.into_thread.result c.unwrap-thread.result c.unwrap-thread.ensures c.into_thread.ensures) c.leave.ensures.here in
    let parts = c.in_ok-list.ensures.parts in
    let is_plan = c.deref.ensures ∙ ap (λ (o : Objects). arc_value o.plan) parts.0 in
    let at_ = awaited_at r u t c.in_ok-list.list.items c.await_end.new.self.main.accesses.items l.others.items run h c.in_ok-list.ensures.ended in
    joined_stands _ _ _ _ _ _ _ _ is_plan c.await_end.ensures.kept.thread (ap (λ (v : Vec Item). v.items) parts.2) parts.3 at_

pub returns-in_err-take-clause-kept : goal.returns-in_err-take-clause-kept
returns-in_err-take-clause-kept g c =
    let l = c.leave.new.self in
    let u = c.args.u in
    let r : Run g.row.G.Denot = record { objects = l.objects; main = l.main; others = c.args.self.now.others } in
    let run_0 = left_run c.args.self.now l c.requires.run c.leave.ensures.parts in
    let run = own_run r run_0 in
    let t = c.unwrap-thread.result in
    let h = here_as u.0 c.leave.result (places.Running t) r.others.items l.others.items (runs_as c.leave.result c.into_thread.result c.unwrap-thread.result c.unwrap-thread.ensures c.into_thread.ensures) c.leave.ensures.here in
    let ys = c.in_ok-list.list in
    let e : Place g.row.G.Denot = places.Ended ys in
    let kept = set_kept c.await_end.new.self _ (u.0 - 1) e c.await_end.ensures.kept tt refl c.take.ensures.same.0 (ap (λ (v : Vec Access). v.items) c.take.ensures.same.1) refl in
    back_kept r _ run_0 kept

pub returns-clause-kept : goal.returns-clause-kept
returns-clause-kept g c =
    let l = c.leave.new.self in
    let u = c.args.u in
    let r : Run g.row.G.Denot = record { objects = l.objects; main = l.main; others = c.args.self.now.others } in
    let run_0 = left_run c.args.self.now l c.requires.run c.leave.ensures.parts in
    let run = own_run r run_0 in
    let t = c.unwrap-thread.result in
    let h = here_as u.0 c.leave.result (places.Running t) r.others.items l.others.items (runs_as c.leave.result c.into_thread.result c.unwrap-thread.result c.unwrap-thread.ensures c.into_thread.ensures) c.leave.ensures.here in
    let ys = c.in_ok-list.list in
    let e : Place g.row.G.Denot = places.Ended ys in
    let kept = set_kept c.await_end.new.self _ (u.0 - 1) e c.await_end.ensures.kept tt refl c.take.ensures.same.0 (ap (λ (v : Vec Access). v.items) c.take.ensures.same.1) refl in
    back_kept r _ run_0 kept

pub returns-clause-run : goal.returns-clause-run
returns-clause-run g c =
    let l = c.leave.new.self in
    let u = c.args.u in
    let r : Run g.row.G.Denot = record { objects = l.objects; main = l.main; others = c.args.self.now.others } in
    let run_0 = left_run c.args.self.now l c.requires.run c.leave.ensures.parts in
    let run = own_run r run_0 in
    let t = c.unwrap-thread.result in
    let h = here_as u.0 c.leave.result (places.Running t) r.others.items l.others.items (runs_as c.leave.result c.into_thread.result c.unwrap-thread.result c.unwrap-thread.ensures c.into_thread.ensures) c.leave.ensures.here in
    let ys = c.in_ok-list.list in
    let e : Place g.row.G.Denot = places.Ended ys in
    let kept = set_kept c.await_end.new.self _ (u.0 - 1) e c.await_end.ensures.kept tt refl c.take.ensures.same.0 (ap (λ (v : Vec Access). v.items) c.take.ensures.same.1) refl in
    let parts = c.in_ok-list.ensures.parts in
    let is_accesses = ap (λ (v : Vec Access). v.items) c.take.ensures.same.1 in
    let awaited = subst (λ (k : List Access). IsAwaited (scene_in r.objects) (objects_at r) t ys.items r.main.accesses.items k) (sym is_accesses) c.in_ok-list.ensures.ended in
    let is_plan = c.deref.ensures ∙ ap (λ (o : Objects). arc_value o.plan) parts.0 in
    let at_ = subst (λ (p : Plan). IsAt (scene_of p) c.take.new.self) is_plan c.in_ok-take.ensures.at in
    let grown = c.in_ok-take.ensures.list ∙ ap (λ (v : Vec Item). v.items ++ items.Control (controls.Join u) ∷ []) parts.2 in
    let set_ = ap (λ (v : Vec (Place g.row.G.Denot)). slice_set v.items (u.0 - 1) e) parts.1 in
    back_run r _ run_0 (joined_run r _ u t ys l.others.items run h awaited parts.0 kept set_ grown at_)

pub returns-clause-tally : goal.returns-clause-tally
returns-clause-tally g c =
    let l = c.leave.new.self in
    let u = c.args.u in
    let r : Run g.row.G.Denot = record { objects = l.objects; main = l.main; others = c.args.self.now.others } in
    let run_0 = left_run c.args.self.now l c.requires.run c.leave.ensures.parts in
    let run = own_run r run_0 in
    let t = c.unwrap-thread.result in
    let h = here_as u.0 c.leave.result (places.Running t) r.others.items l.others.items (runs_as c.leave.result c.into_thread.result c.unwrap-thread.result c.unwrap-thread.ensures c.into_thread.ensures) c.leave.ensures.here in
    let ys = c.in_ok-list.list in
    let e : Place g.row.G.Denot = places.Ended ys in
    let parts = c.in_ok-list.ensures.parts in
    let before = tally (g.P.Spawner.faults c.args.spawner.now) (g.P.Spawner.started c.args.spawner.now) (g.P.Spawner.carried c.args.spawner.now) in
    let now = tally (g.P.Spawner.faults c.await_end.new.spawner) (g.P.Spawner.started c.await_end.new.spawner) (g.P.Spawner.carried c.await_end.new.spawner) in
    let grown = c.in_ok-take.ensures.list ∙ (ap (λ (v : Vec Item). v.items ++ items.Control (controls.Join u) ∷ []) parts.2 ∙ ap (λ (x : Standing). x.list.items ++ items.Control (controls.Join u) ∷ []) c.leave.ensures.parts.1) in
    let set_ = ap (λ (v : Vec (Place g.row.G.Denot)). slice_set v.items (u.0 - 1) e) parts.1 in
    joined_tally before now c.args.self.now.main.list.items c.take.new.self.list.items r.others.items l.others.items _ u t ys h set_ grown c.in_ok-list.ensures.faults c.in_ok-list.ensures.started c.in_ok-list.ensures.carried

pub take-requires-clause-fits : goal.take-requires-clause-fits
take-requires-clause-fits g c =
    let v = c.args.self.now in
    let a = c.await_end.new.self in
    let u = c.args.u in
    let parts = c.in_ok-list.ensures.parts in
    let is_plan = c.deref.ensures ∙ (ap (λ (o : Objects). arc_value o.plan) parts.0 ∙ ap (λ (o : Objects). arc_value o.plan) c.leave.ensures.parts.0) in
    taken_fits c.deref.result.now (arc_value v.objects.plan) a.main.thread v.main.local a.main.local _ (items.Control (controls.Join u)) is_plan c.await_end.ensures.kept.thread (parts.3 ∙ ap (λ (x : Standing). x.local) c.leave.ensures.parts.1) c.requires.next (join_fits (scene_in v.objects) u)

pub returns-clause-mains : goal.returns-clause-mains
returns-clause-mains g c =
    let l = c.leave.new.self in
    let u = c.args.u in
    let r : Run g.row.G.Denot = record { objects = l.objects; main = l.main; others = c.args.self.now.others } in
    let t = c.unwrap-thread.result in
    let h = here_as u.0 c.leave.result (places.Running t) r.others.items l.others.items (runs_as c.leave.result c.into_thread.result c.unwrap-thread.result c.unwrap-thread.ensures c.into_thread.ensures) c.leave.ensures.here in
    let ys = c.in_ok-list.list in
    let e : Place g.row.G.Denot = places.Ended ys in
    let parts = c.in_ok-list.ensures.parts in
    let grown = c.in_ok-take.ensures.list ∙ (ap (λ (v : Vec Item). v.items ++ items.Control (controls.Join u) ∷ []) parts.2 ∙ ap (λ (x : Standing). x.list.items ++ items.Control (controls.Join u) ∷ []) c.leave.ensures.parts.1) in
    let set_ = ap (λ (v : Vec (Place g.row.G.Denot)). slice_set v.items (u.0 - 1) e) parts.1 in
    joined_mains c.args.self.now.main.list.items c.take.new.self.list.items u (places.Running t) ys r.others.items l.others.items _ c.requires.mains h set_ grown

pub returns-clause-out : goal.returns-clause-out
returns-clause-out g c =
    let l = c.leave.new.self in
    let u = c.args.u in
    let r : Run g.row.G.Denot = record { objects = l.objects; main = l.main; others = c.args.self.now.others } in
    let t = c.unwrap-thread.result in
    let h = here_as u.0 c.leave.result (places.Running t) r.others.items l.others.items (runs_as c.leave.result c.into_thread.result c.unwrap-thread.result c.unwrap-thread.ensures c.into_thread.ensures) c.leave.ensures.here in
    let e : Place g.row.G.Denot = places.Ended c.in_ok-list.list in
    let set_ = ap (λ (v : Vec (Place g.row.G.Denot)). slice_set v.items (u.0 - 1) e) c.await_end.ensures.parts.1 in
    joined_keeps r.others.items l.others.items _ u t e _ _ _ _ h set_ refl c.await_end.ensures.started c.await_end.ensures.joins

pub returns-in_err-take-clause-out : goal.returns-in_err-take-clause-out
returns-in_err-take-clause-out g c =
    let l = c.leave.new.self in
    let u = c.args.u in
    let r : Run g.row.G.Denot = record { objects = l.objects; main = l.main; others = c.args.self.now.others } in
    let t = c.unwrap-thread.result in
    let h = here_as u.0 c.leave.result (places.Running t) r.others.items l.others.items (runs_as c.leave.result c.into_thread.result c.unwrap-thread.result c.unwrap-thread.ensures c.into_thread.ensures) c.leave.ensures.here in
    let e : Place g.row.G.Denot = places.Ended c.in_ok-list.list in
    let set_ = ap (λ (v : Vec (Place g.row.G.Denot)). slice_set v.items (u.0 - 1) e) c.await_end.ensures.parts.1 in
    joined_keeps r.others.items l.others.items _ u t e _ _ _ _ h set_ refl c.await_end.ensures.started c.await_end.ensures.joins

pub returns-in_err-list-clause-out : goal.returns-in_err-list-clause-out
returns-in_err-list-clause-out g c =
    let l = c.leave.new.self in
    let u = c.args.u in
    let r : Run g.row.G.Denot = record { objects = l.objects; main = l.main; others = c.args.self.now.others } in
    let t = c.unwrap-thread.result in
    let h = here_as u.0 c.leave.result (places.Running t) r.others.items l.others.items (runs_as c.leave.result c.into_thread.result c.unwrap-thread.result c.unwrap-thread.ensures c.into_thread.ensures) c.leave.ensures.here in
    left_keeps r.others.items l.others.items _ u t _ _ _ _ h (ap (λ (v : Vec (Place g.row.G.Denot)). v.items) c.await_end.ensures.parts.1) c.await_end.ensures.started c.await_end.ensures.joins

pub unwrap-thread-requires : goal.unwrap-thread-requires
unwrap-thread-requires g c = runs_some c.leave.result c.into_thread.result (joins_running c.args.self.now c.requires.run c.args.u c.leave.result c.leave.new.self.others.items c.requires.next c.requires.mains c.leave.ensures.here) c.into_thread.ensures
