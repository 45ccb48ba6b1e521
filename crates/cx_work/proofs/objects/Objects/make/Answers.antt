use Rattle.std.proofs.Common.{arith, ap, ◌∙◌, subst, List, ◌+◌}
use Rattle.cx_scene.specs.Scene.{scene_of}
use Rattle.cx_scene.specs.declared.declared.Object.{Object}
use Rattle.cx_asks.specs.Scenes.{count_at}
use Rattle.cx_kinds.specs.declared.access.Access.{Access}
use Rattle.cx_work.specs.Accesses.{AreMadeAs, objects_of}
use Rattle.cx_work.specs.RunNow.{AreGiven, AreAllNew, objects_of_all}
use Rattle.cx_work.proofs.Rows.{rows_begin, as_long}
use Rattle.cx_work.proofs.Shares.{rows_shared_begin, rows_shared_written, rows_shared_end}
use Rattle.cx_work.proofs.Splits.{rows_first, rows_next, rows_all}
use Rattle.cx_work.proofs.objects.Objects.make.Goals as goal

pub loop-splits-init : goal.loop-splits-init
loop-splits-init c =
    let is = c.len-threads.ensures in
    let some = c.requires.threads.0 in (
      rows_begin (objects_of c.in_ok-main.main.items) c.len-threads.result c.in_ok-main.main.items c.in_ok-passes.passes.items (omega (arith, is, some)) c.in_ok-main.ensures.new c.in_ok-passes.ensures.items,
      rows_shared_begin (scene_of c.args.plan.now) c.in_ok-main.main.items c.in_ok-passes.passes.items (λ o. c.in_ok-main.ensures.shares o ∙ ap (λ ds. count_at ds o) c.as_slice.ensures.value) c.in_ok-passes.ensures.items,
    )

pub row_of-requires-clause-main : goal.row_of-requires-clause-main
row_of-requires-clause-main c = rows_first (objects_of c.in_ok-main.main.items) c.len-threads.result c.loop-splits.splits c.loop-splits.main c.as_mut_slice.result.now c.loop-splits.passes.items c.as_mut_slice.ensures.value c.loop-splits.invariant.0

pub loop-splits-preserved : goal.loop-splits-preserved
loop-splits-preserved c =
    let main = c.loop-splits.main in
    let n = c.loop-splits.splits in
    let made = c.loop-splits.invariant.0 in
    let new = c.in_ok-row.ensures in
    let up = c.loop-splits-test.true in (
      rows_next (objects_of c.in_ok-main.main.items) c.len-threads.result n main c.as_mut_slice.result.now c.row_of.new.main c.loop-splits.passes.items c.push.new.self.items c.in_ok-row.row c.as_mut_slice.ensures.value (omega (arith, up)) made new.main new.row c.in_ok-push.ensures.items,
      rows_shared_written (scene_of c.args.plan.now) n main c.row_of.new.main c.loop-splits.passes.items c.push.new.self.items c.in_ok-row.row (as_long main c.as_mut_slice.result.now c.row_of.new.main c.as_mut_slice.ensures.value new.main.count) made.count c.loop-splits.invariant.1 (subst (λ (ks : List Access). AreGiven (scene_of c.args.plan.now) (n + 1) ks c.row_of.new.main c.in_ok-row.row.items) c.as_mut_slice.ensures.value new.shares) c.in_ok-push.ensures.items,
    )

pub returns-clause-objects : goal.returns-clause-objects
returns-clause-objects c =
    let past = c.loop-splits-test.false in
    let declared = subst (λ (ds : List Object). AreMadeAs ds (objects_of c.in_ok-main.main.items)) c.as_slice.ensures.value c.in_ok-main.ensures.objects in
    (rows_all c.args.plan.now.objects.items (objects_of c.in_ok-main.main.items) c.len-threads.result c.loop-splits.splits c.loop-splits.main c.loop-splits.passes.items c.insert.new.self.items declared (omega (arith, past)) c.loop-splits.invariant.0 c.in_ok-insert.ensures.items).0

pub returns-clause-passes : goal.returns-clause-passes
returns-clause-passes c =
    let past = c.loop-splits-test.false in
    let declared = subst (λ (ds : List Object). AreMadeAs ds (objects_of c.in_ok-main.main.items)) c.as_slice.ensures.value c.in_ok-main.ensures.objects in
    let all_ = (rows_all c.args.plan.now.objects.items (objects_of c.in_ok-main.main.items) c.len-threads.result c.loop-splits.splits c.loop-splits.main c.loop-splits.passes.items c.insert.new.self.items declared (omega (arith, past)) c.loop-splits.invariant.0 c.in_ok-insert.ensures.items).1 in
    subst (λ n. AreAllNew (objects_of_all c.insert.new.self.items) n c.insert.new.self.items) c.len-threads.ensures all_

pub returns-clause-shares : goal.returns-clause-shares
returns-clause-shares c = rw c.in_ok-insert.ensures.items (rows_shared_end (scene_of c.args.plan.now) c.loop-splits.splits c.loop-splits.main c.loop-splits.passes.items c.loop-splits.invariant.0.count c.loop-splits.invariant.1)
