use Rattle.std.proofs.Common.{◌≡◌, suc, slice_set, refl, ap, ◌∙◌, arith}
use Rattle.std.specs.Global.{Vec}
use Rattle.cx_io.proofs.Counts.{raised_none}
use Rattle.cx_work.specs.Bodies.{scene_in}
use Rattle.cx_items.specs.declared.item.Item.{Item}
use Rattle.cx_fronts.specs.Counts.{change_count}
use Rattle.cx_run.specs.declared.place.Place.{Place}
use Rattle.cx_run.specs.declared.place.Place.TheVariants as places
use Rattle.cx_run.specs.Runs.{tally, objects_at}
use Rattle.cx_run.proofs.Parts.{vec_is, takes_as, place_was, waiting_accesses, left_kept, set_kept, runs_here, off_may, idle_run, late_run, later_tally, same_tally, same_kept, same_run, set_twice, set_back, set_same}
use Rattle.cx_run.proofs.Joined.{same_running, same_places, joined_running, ran_set, idled_set}
use Rattle.cx_run.proofs.Stepped.{own_as, others_as}
use Rattle.cx_run.proofs.run.Run.gather_one.Goals as goal

pub take_all_in-requires-clause-accesses : goal.take_all_in-requires-clause-accesses
take_all_in-requires-clause-accesses g c = (0, own_as (objects_at c.args.self.now) c.as_mut_slice.result.now c.args.self.now.main.accesses.items 0 c.as_mut_slice.ensures.value c.requires.run.kept.accesses)

pub take_all_in-requires-clause-others : goal.take_all_in-requires-clause-others
take_all_in-requires-clause-others g c =
    let r = c.args.self.now in
    let w = c.in-Waiting.work in
    let at_p = place_was r.others.items c.args.i c.index_mut.result.now c.replace.result (places.Waiting w) c.requires.there c.index_mut.ensures.value c.replace.ensures.value c.in-Waiting.is in
    (suc c.args.i, others_as (objects_at r) c.as_mut_slice.result.now r.main.accesses.items w.standing.accesses.items w.standing.accesses.items 0 (suc c.args.i) c.as_mut_slice.ensures.value refl c.requires.run.kept.accesses (waiting_accesses r c.args.i w c.requires.run at_p))

pub await_end-requires-clause-kept : goal.await_end-requires-clause-kept
await_end-requires-clause-kept g c κs within = left_kept c.args.self.now _ c.args.i c.replace.new.dest c.requires.run.kept c.replace.ensures.after refl refl refl refl

pub await_end-requires-clause-may : goal.await_end-requires-clause-may
await_end-requires-clause-may g c κs within =
    let r = c.args.self.now in
    let t = c.in-Running.thread in
    off_may (scene_in r.objects) (objects_at c.args.self.now) (suc c.args.i) (c.requires.run.goes.first (suc c.args.i)) t (omega arith) (runs_here r c.args.i t c.requires.run (place_was r.others.items c.args.i c.index_mut.result.now c.replace.result (places.Running t) c.requires.there c.index_mut.ensures.value c.replace.ensures.value c.in-Running.is))

pub returns-in-Waiting-clause-run : goal.returns-in-Waiting-clause-run
returns-in-Waiting-clause-run g c =
    let r = c.args.self.now in
    let w = c.in-Waiting.work in
    let at_p = place_was r.others.items c.args.i c.index_mut.result.now c.replace.result (places.Waiting w) c.requires.there c.index_mut.ensures.value c.replace.ensures.value c.in-Waiting.is in
    let set_ = ap (λ (z : Place g.row.G.Denot). slice_set r.others.items c.args.i z) c.replace.ensures.after in
    let takes = takes_as w.standing.accesses.items _ r.main.accesses.items c.take_all_in.new.accesses c.as_mut_slice.ensures.value c.take_all_in.ensures in
    idle_run r _ c.args.i w c.take_all_in.new.accesses c.requires.run at_p takes (vec_is r.main.accesses c.take_all_in.new.accesses takes.count) refl refl refl refl set_

pub returns-in-Waiting-clause-kept : goal.returns-in-Waiting-clause-kept
returns-in-Waiting-clause-kept g c = (returns-in-Waiting-clause-run g c).kept

pub returns-in-Waiting-clause-tally : goal.returns-in-Waiting-clause-tally
returns-in-Waiting-clause-tally g c =
    let r = c.args.self.now in
    let w = c.in-Waiting.work in
    let at_p = place_was r.others.items c.args.i c.index_mut.result.now c.replace.result (places.Waiting w) c.requires.there c.index_mut.ensures.value c.replace.ensures.value c.in-Waiting.is in
    let set_ = ap (λ (z : Place g.row.G.Denot). slice_set r.others.items c.args.i z) c.replace.ensures.after in
    let now = tally (g.P.Spawner.faults c.args.spawner.now) (g.P.Spawner.started c.args.spawner.now) (g.P.Spawner.carried c.args.spawner.now) in
    later_tally now now r.main.list.items r.main.list.items r.others.items _ c.args.i 0 (places.Waiting w) places.Idle at_p set_ refl refl refl refl refl (raised_none (g.P.Spawner.carried c.args.spawner.now))

pub returns-in_ok-list-in-Running-clause-kept : goal.returns-in_ok-list-in-Running-clause-kept
returns-in_ok-list-in-Running-clause-kept g c = set_kept c.await_end.new.self _ c.args.i (places.Ended c.in_ok-list-in-Running.list) c.await_end.ensures.kept tt refl refl refl refl

pub returns-in_ok-list-in-Running-clause-run : goal.returns-in_ok-list-in-Running-clause-run
returns-in_ok-list-in-Running-clause-run g c =
    let r = c.args.self.now in
    let t = c.in-Running.thread in
    let ended = c.in_ok-list-in-Running in
    let e : Place g.row.G.Denot = places.Ended ended.list in
    let at_p = place_was r.others.items c.args.i c.index_mut.result.now c.replace.result (places.Running t) c.requires.there c.index_mut.ensures.value c.replace.ensures.value c.in-Running.is in
    let set_ : slice_set c.await_end.new.self.others.items c.args.i e ≡ slice_set r.others.items c.args.i e = ap (λ (v : Vec (Place g.row.G.Denot)). slice_set v.items c.args.i e) ended.ensures.parts.1 ∙ set_twice r.others.items c.args.i c.replace.new.dest e in
    let kept = set_kept c.await_end.new.self _ c.args.i e c.await_end.ensures.kept tt refl refl refl refl in
    late_run r _ c.args.i t ended.list c.requires.run at_p ended.ensures.ended ended.ensures.parts.0 kept ended.ensures.parts.2 ended.ensures.parts.3 set_

pub returns-in_ok-list-in-Running-clause-tally : goal.returns-in_ok-list-in-Running-clause-tally
returns-in_ok-list-in-Running-clause-tally g c =
    let r = c.args.self.now in
    let t = c.in-Running.thread in
    let ended = c.in_ok-list-in-Running in
    let e : Place g.row.G.Denot = places.Ended ended.list in
    let at_p = place_was r.others.items c.args.i c.index_mut.result.now c.replace.result (places.Running t) c.requires.there c.index_mut.ensures.value c.replace.ensures.value c.in-Running.is in
    let set_ : slice_set c.await_end.new.self.others.items c.args.i e ≡ slice_set r.others.items c.args.i e = ap (λ (v : Vec (Place g.row.G.Denot)). slice_set v.items c.args.i e) ended.ensures.parts.1 ∙ set_twice r.others.items c.args.i c.replace.new.dest e in
    let before = tally (g.P.Spawner.faults c.args.spawner.now) (g.P.Spawner.started c.args.spawner.now) (g.P.Spawner.carried c.args.spawner.now) in
    let now = tally (g.P.Spawner.faults c.await_end.new.spawner) (g.P.Spawner.started c.await_end.new.spawner) (g.P.Spawner.carried c.await_end.new.spawner) in
    later_tally before now r.main.list.items c.await_end.new.self.main.list.items r.others.items _ c.args.i (change_count ended.list.items) (places.Running t) e at_p set_ (ap (λ (v : Vec Item). v.items) ended.ensures.parts.2) refl refl ended.ensures.faults ended.ensures.started ended.ensures.carried

pub returns-in_ok-list-in-Running-clause-come : goal.returns-in_ok-list-in-Running-clause-come
returns-in_ok-list-in-Running-clause-come g c =
    let r = c.args.self.now in
    let t = c.in-Running.thread in
    let ended = c.in_ok-list-in-Running in
    let e : Place g.row.G.Denot = places.Ended ended.list in
    let at_p = place_was r.others.items c.args.i c.index_mut.result.now c.replace.result (places.Running t) c.requires.there c.index_mut.ensures.value c.replace.ensures.value c.in-Running.is in
    let set_ : slice_set c.await_end.new.self.others.items c.args.i e ≡ slice_set r.others.items c.args.i e = ap (λ (v : Vec (Place g.row.G.Denot)). slice_set v.items c.args.i e) ended.ensures.parts.1 ∙ set_twice r.others.items c.args.i c.replace.new.dest e in
    (e, set_, refl)

pub returns-in-Ended-clause-kept : goal.returns-in-Ended-clause-kept
returns-in-Ended-clause-kept g c =
    let r = c.args.self.now in
    let e : Place g.row.G.Denot = places.Ended c.in-Ended.list in
    let at_p = place_was r.others.items c.args.i c.index_mut.result.now c.replace.result e c.requires.there c.index_mut.ensures.value c.replace.ensures.value c.in-Ended.is in
    let back = set_back r.others.items c.args.i e c.replace.new.dest at_p in
    same_kept r _ refl refl refl back c.requires.run.kept

pub returns-in-Ended-clause-run : goal.returns-in-Ended-clause-run
returns-in-Ended-clause-run g c =
    let r = c.args.self.now in
    let e : Place g.row.G.Denot = places.Ended c.in-Ended.list in
    let at_p = place_was r.others.items c.args.i c.index_mut.result.now c.replace.result e c.requires.there c.index_mut.ensures.value c.replace.ensures.value c.in-Ended.is in
    let back = set_back r.others.items c.args.i e c.replace.new.dest at_p in
    same_run r _ refl refl refl refl refl back c.requires.run

pub returns-in-Ended-clause-tally : goal.returns-in-Ended-clause-tally
returns-in-Ended-clause-tally g c =
    let r = c.args.self.now in
    let e : Place g.row.G.Denot = places.Ended c.in-Ended.list in
    let at_p = place_was r.others.items c.args.i c.index_mut.result.now c.replace.result e c.requires.there c.index_mut.ensures.value c.replace.ensures.value c.in-Ended.is in
    let back = set_back r.others.items c.args.i e c.replace.new.dest at_p in
    same_tally (tally (g.P.Spawner.faults c.args.spawner.now) (g.P.Spawner.started c.args.spawner.now) (g.P.Spawner.carried c.args.spawner.now)) r.main.list.items r.main.list.items r.others.items _ refl back

pub returns-in-Ended-clause-come : goal.returns-in-Ended-clause-come
returns-in-Ended-clause-come g c =
    let r = c.args.self.now in
    let e : Place g.row.G.Denot = places.Ended c.in-Ended.list in
    let at_p = place_was r.others.items c.args.i c.index_mut.result.now c.replace.result e c.requires.there c.index_mut.ensures.value c.replace.ensures.value c.in-Ended.is in
    let back = set_back r.others.items c.args.i e c.replace.new.dest at_p in
    (e, set_twice r.others.items c.args.i c.replace.new.dest e, refl)

pub returns-in-Idle-clause-kept : goal.returns-in-Idle-clause-kept
returns-in-Idle-clause-kept g c =
    let r = c.args.self.now in
    let at_p = place_was r.others.items c.args.i c.index_mut.result.now c.replace.result places.Idle c.requires.there c.index_mut.ensures.value c.replace.ensures.value c.in-Idle.is in
    let same = set_same r.others.items c.args.i places.Idle c.replace.new.dest at_p c.replace.ensures.after in
    same_kept r _ refl refl refl same c.requires.run.kept

pub returns-in-Idle-clause-run : goal.returns-in-Idle-clause-run
returns-in-Idle-clause-run g c =
    let r = c.args.self.now in
    let at_p = place_was r.others.items c.args.i c.index_mut.result.now c.replace.result places.Idle c.requires.there c.index_mut.ensures.value c.replace.ensures.value c.in-Idle.is in
    let same = set_same r.others.items c.args.i places.Idle c.replace.new.dest at_p c.replace.ensures.after in
    same_run r _ refl refl refl refl refl same c.requires.run

pub returns-in-Waiting-clause-out : goal.returns-in-Waiting-clause-out
returns-in-Waiting-clause-out g c =
    let r = c.args.self.now in
    let w = c.in-Waiting.work in
    let at_p = place_was r.others.items c.args.i c.index_mut.result.now c.replace.result (places.Waiting w) c.requires.there c.index_mut.ensures.value c.replace.ensures.value c.in-Waiting.is in
    let set_ = ap (λ (z : Place g.row.G.Denot). slice_set r.others.items c.args.i z) c.replace.ensures.after in
    same_running r.others.items _ _ _ _ _ (idled_set r.others.items _ c.args.i (places.Waiting w) places.Idle at_p set_ refl refl) refl refl

pub returns-in_ok-list-in-Running-clause-out : goal.returns-in_ok-list-in-Running-clause-out
returns-in_ok-list-in-Running-clause-out g c =
    let r = c.args.self.now in
    let t = c.in-Running.thread in
    let e : Place g.row.G.Denot = places.Ended c.in_ok-list-in-Running.list in
    let at_p = place_was r.others.items c.args.i c.index_mut.result.now c.replace.result (places.Running t) c.requires.there c.index_mut.ensures.value c.replace.ensures.value c.in-Running.is in
    let set_ : slice_set c.await_end.new.self.others.items c.args.i e ≡ slice_set r.others.items c.args.i e = ap (λ (v : Vec (Place g.row.G.Denot)). slice_set v.items c.args.i e) c.await_end.ensures.parts.1 ∙ set_twice r.others.items c.args.i c.replace.new.dest e in
    joined_running r.others.items _ _ _ _ _ (ran_set r.others.items _ c.args.i t e at_p set_ refl) c.await_end.ensures.started c.await_end.ensures.joins

pub returns-in_err-list-in-Running-clause-out : goal.returns-in_err-list-in-Running-clause-out
returns-in_err-list-in-Running-clause-out g c =
    let r = c.args.self.now in
    let t = c.in-Running.thread in
    let at_p = place_was r.others.items c.args.i c.index_mut.result.now c.replace.result (places.Running t) c.requires.there c.index_mut.ensures.value c.replace.ensures.value c.in-Running.is in
    let set_ = ap (λ (v : Vec (Place g.row.G.Denot)). v.items) c.await_end.ensures.parts.1 ∙ ap (λ (z : Place g.row.G.Denot). slice_set r.others.items c.args.i z) c.replace.ensures.after in
    joined_running r.others.items _ _ _ _ _ (ran_set r.others.items _ c.args.i t places.Idle at_p set_ refl) c.await_end.ensures.started c.await_end.ensures.joins

pub returns-in-Ended-clause-out : goal.returns-in-Ended-clause-out
returns-in-Ended-clause-out g c =
    let r = c.args.self.now in
    let e : Place g.row.G.Denot = places.Ended c.in-Ended.list in
    let at_p = place_was r.others.items c.args.i c.index_mut.result.now c.replace.result e c.requires.there c.index_mut.ensures.value c.replace.ensures.value c.in-Ended.is in
    same_places r.others.items _ _ _ _ _ (set_back r.others.items c.args.i e c.replace.new.dest at_p) refl refl

pub returns-in-Idle-clause-out : goal.returns-in-Idle-clause-out
returns-in-Idle-clause-out g c =
    let r = c.args.self.now in
    let at_p = place_was r.others.items c.args.i c.index_mut.result.now c.replace.result places.Idle c.requires.there c.index_mut.ensures.value c.replace.ensures.value c.in-Idle.is in
    same_places r.others.items _ _ _ _ _ (set_same r.others.items c.args.i places.Idle c.replace.new.dest at_p c.replace.ensures.after) refl refl
