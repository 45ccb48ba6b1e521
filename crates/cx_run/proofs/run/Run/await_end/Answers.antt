use Rattle.std.proofs.Common.{refl, subst}
use Rattle.cx_io.specs.Spawning.{Raised}
use Rattle.cx_run.specs.Runs.{objects_at}
use Rattle.cx_work.specs.Bodies.{scene_in}
use Rattle.cx_run.proofs.Parts.{vec_is, given_of, takes_as, given_kept, given_awaited}
use Rattle.cx_run.proofs.Stepped.{own_as, others_as}
use Rattle.cx_run.proofs.run.Run.await_end.Goals as goal

pub returns-then-failed-clause-kept : goal.returns-then-failed-clause-kept
returns-then-failed-clause-kept g c =
    let r = c.args.self.now in
    let given = given_of (scene_in r.objects) (objects_at c.args.self.now) c.args.thread c.await_thread-ended.result c.requires.may c.await_thread-ended.ensures.gives in
    let takes = takes_as c.await_thread-ended.result.accesses.items _ r.main.accesses.items c.take_all_in.new.accesses c.as_mut_slice.ensures.value c.take_all_in.ensures in
    given_kept r _ c.args.thread c.await_thread-ended.result c.take_all_in.new.accesses c.requires.kept given takes (vec_is r.main.accesses c.take_all_in.new.accesses (takes.count)) refl refl refl

pub returns-else-failed-clause-kept : goal.returns-else-failed-clause-kept
returns-else-failed-clause-kept g c =
    let r = c.args.self.now in
    let given = given_of (scene_in r.objects) (objects_at c.args.self.now) c.args.thread c.await_thread-ended.result c.requires.may c.await_thread-ended.ensures.gives in
    let takes = takes_as c.await_thread-ended.result.accesses.items _ r.main.accesses.items c.take_all_in.new.accesses c.as_mut_slice.ensures.value c.take_all_in.ensures in
    given_kept r _ c.args.thread c.await_thread-ended.result c.take_all_in.new.accesses c.requires.kept given takes (vec_is r.main.accesses c.take_all_in.new.accesses (takes.count)) refl refl refl

pub returns-else-failed-clause-ended : goal.returns-else-failed-clause-ended
returns-else-failed-clause-ended g c =
    let r = c.args.self.now in
    let given = given_of (scene_in r.objects) (objects_at c.args.self.now) c.args.thread c.await_thread-ended.result c.requires.may c.await_thread-ended.ensures.gives in
    let takes = takes_as c.await_thread-ended.result.accesses.items _ r.main.accesses.items c.take_all_in.new.accesses c.as_mut_slice.ensures.value c.take_all_in.ensures in
    given_awaited (scene_in r.objects) (objects_at c.args.self.now) c.args.thread c.await_thread-ended.result r.main.accesses.items _ c.take_all_in.new.accesses given c.if-failed.false takes (vec_is r.main.accesses c.take_all_in.new.accesses (takes.count))

pub await_thread-ended-requires-clause-may : goal.await_thread-ended-requires-clause-may
await_thread-ended-requires-clause-may g c κs within = c.requires.may.may

pub take_all_in-requires-clause-accesses : goal.take_all_in-requires-clause-accesses
take_all_in-requires-clause-accesses g c = (0, own_as (objects_at c.args.self.now) c.as_mut_slice.result.now c.args.self.now.main.accesses.items 0 c.as_mut_slice.ensures.value c.requires.kept.accesses)

pub take_all_in-requires-clause-others : goal.take_all_in-requires-clause-others
take_all_in-requires-clause-others g c =
    let r = c.args.self.now in
    let e = c.await_thread-ended.result in
    let given = given_of (scene_in r.objects) (objects_at c.args.self.now) c.args.thread e c.requires.may c.await_thread-ended.ensures.gives in
    (given.job.standing.thread.0, others_as (objects_at r) c.as_mut_slice.result.now r.main.accesses.items e.accesses.items e.accesses.items 0 given.job.standing.thread.0 c.as_mut_slice.ensures.value refl c.requires.kept.accesses given.theirs)

pub returns-else-failed-clause-carried : goal.returns-else-failed-clause-carried
returns-else-failed-clause-carried g c =
    let e = c.await_thread-ended.result in
    let gives = c.await_thread-ended.ensures.gives c.requires.may.may.job c.requires.may.may.to_join in
    subst (λ n. Raised (g.P.Spawner.carried c.args.spawner.now) (g.P.Spawner.carried c.await_thread-ended.new.spawner) n) gives.made c.await_thread-ended.ensures.carried
