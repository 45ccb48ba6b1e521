use Rattle.std.proofs.Common.{length, [], rules, sym, ap, ◌∙◌, subst, arith}
use Rattle.std.proofs.lemmas.List.{length_push}
use Rattle.std.proofs.lemmas.Iterator.Consumers.{YieldsList-turn, YieldsList-end, YieldsList-from_enumerate, YieldsList-at}
use Rattle.std.proofs.lemmas.Iterator.Adapters.{YieldsList-from_vec}
use Rattle.cx_names.specs.declared.ThreadNo.{ThreadNo}
use Rattle.cx_scene.specs.declared.plan.Plan.{Plan}
use Rattle.cx_work.specs.Bodies.{scene_in}
use Rattle.cx_scene.specs.Scene.{Scene, scene_of}
use Rattle.cx_work.specs.Accesses.{AreMadeAs, objects_of}
use Rattle.cx_work.specs.RunNow.{objects_of_all}
use Rattle.cx_work.specs.Reserves.{AreEnough}
use Rattle.cx_work.specs.Steps.{IsAt}
use Rattle.cx_run.proofs.Passed.{turn_is, long_counted}
use Rattle.cx_run.proofs.Beginning.{first_row, turn_below, main_enough, row_enough, row_accesses, row_made, row_waits, prepared, no_steps_first, mains_first, none_runs_first}
use Rattle.cx_run.proofs.run.Run.prepare.Goals as goal

pub new-requires-clause-accesses : goal.new-requires-clause-accesses
new-requires-clause-accesses g c κs within =
    let turn = YieldsList-turn (YieldsList-at c.into_iter-i-iterator.ensures.into_iter_gives (YieldsList-from_enumerate (YieldsList-at c.enumerate-i-items.ensures.source (YieldsList-from_vec c.remove-accesses.new.self.items c.into_iter.ensures.rest (c.into_iter.ensures.len ∙ c.remove-accesses.new.self.ok.0))) c.enumerate-i-items.ensures.count)) c.loop-i.yielded c.loop-i.i-iterator c.loop-i.yielded_by c.next.result c.next.new.self (c.in-Some.i, c.in-Some.accesses) c.in-Some.is c.next.ensures.steps in
    let is_turn = turn_is c.remove-accesses.new.self.items (length c.loop-i.yielded) c.in-Some.i c.in-Some.accesses turn.0 turn.1 in
    row_accesses _ _ c.args.passes.threads.items _ _ _ _ _ c.requires.passes c.remove-accesses.ensures.items is_turn c.after.ensures

pub after-requires : goal.after-requires
after-requires g c =
    let turn = YieldsList-turn (YieldsList-at c.into_iter-i-iterator.ensures.into_iter_gives (YieldsList-from_enumerate (YieldsList-at c.enumerate-i-items.ensures.source (YieldsList-from_vec c.remove-accesses.new.self.items c.into_iter.ensures.rest (c.into_iter.ensures.len ∙ c.remove-accesses.new.self.ok.0))) c.enumerate-i-items.ensures.count)) c.loop-i.yielded c.loop-i.i-iterator c.loop-i.yielded_by c.next.result c.next.new.self (c.in-Some.i, c.in-Some.accesses) c.in-Some.is c.next.ensures.steps in
    let is_turn = turn_is c.remove-accesses.new.self.items (length c.loop-i.yielded) c.in-Some.i c.in-Some.accesses turn.0 turn.1 in
    turn_below (length (scene_in c.args.objects.now).threads) c.args.passes.threads c.remove-accesses.new.self.items (length c.loop-i.yielded) c.in-Some.i c.in-Some.accesses c.requires.passes.count c.requires.threads.1 c.remove-accesses.ensures.items is_turn

pub start-requires : goal.start-requires
start-requires g c =
    let rows = c.args.passes.threads in
    let some_ = c.requires.threads.0 in
    let all_rows = c.requires.passes.count in
    let at_0 = first_row rows.items c.remove-accesses.result (omega (arith, some_, all_rows)) c.remove-accesses.ensures.value in
    record { enough = subst (λ (p : Plan). AreEnough (scene_of p) 0 c.remove-accesses.result.items []) (sym c.deref-2.ensures) (main_enough (scene_in c.args.objects.now) (objects_of_all rows.items) rows.items c.remove-accesses.result c.requires.runs.asks c.requires.passes c.requires.shares at_0) }

pub new-requires-clause-other : goal.new-requires-clause-other
new-requires-clause-other g c κs within = let is = c.after.ensures in omega (arith, is)

pub new-requires-clause-enough : goal.new-requires-clause-enough
new-requires-clause-enough g c κs within =
    let turn = YieldsList-turn (YieldsList-at c.into_iter-i-iterator.ensures.into_iter_gives (YieldsList-from_enumerate (YieldsList-at c.enumerate-i-items.ensures.source (YieldsList-from_vec c.remove-accesses.new.self.items c.into_iter.ensures.rest (c.into_iter.ensures.len ∙ c.remove-accesses.new.self.ok.0))) c.enumerate-i-items.ensures.count)) c.loop-i.yielded c.loop-i.i-iterator c.loop-i.yielded_by c.next.result c.next.new.self (c.in-Some.i, c.in-Some.accesses) c.in-Some.is c.next.ensures.steps in
    let is_turn = turn_is c.remove-accesses.new.self.items (length c.loop-i.yielded) c.in-Some.i c.in-Some.accesses turn.0 turn.1 in
    subst (λ (s : Scene). AreEnough s c.after.result.0 c.in-Some.accesses.items []) (sym c.in_ok-share.ensures)
    (row_enough (scene_in c.args.objects.now) _ c.args.passes.threads.items _ _ _ _ c.in-Some.accesses c.requires.runs.asks c.requires.passes c.requires.shares c.remove-accesses.ensures.items is_turn c.after.ensures)

pub new-requires-clause-made : goal.new-requires-clause-made
new-requires-clause-made g c κs within =
    let turn = YieldsList-turn (YieldsList-at c.into_iter-i-iterator.ensures.into_iter_gives (YieldsList-from_enumerate (YieldsList-at c.enumerate-i-items.ensures.source (YieldsList-from_vec c.remove-accesses.new.self.items c.into_iter.ensures.rest (c.into_iter.ensures.len ∙ c.remove-accesses.new.self.ok.0))) c.enumerate-i-items.ensures.count)) c.loop-i.yielded c.loop-i.i-iterator c.loop-i.yielded_by c.next.result c.next.new.self (c.in-Some.i, c.in-Some.accesses) c.in-Some.is c.next.ensures.steps in
    let is_turn = turn_is c.remove-accesses.new.self.items (length c.loop-i.yielded) c.in-Some.i c.in-Some.accesses turn.0 turn.1 in
    let made = row_made (scene_in c.args.objects.now) _ _ c.args.passes.threads.items _ _ _ _ c.requires.passes c.remove-accesses.ensures.items is_turn c.requires.made in
    subst (λ (s : Scene). AreMadeAs s.objects (objects_of c.in-Some.accesses.items)) (sym c.in_ok-share.ensures) made

pub loop-i-preserved : goal.loop-i-preserved
loop-i-preserved g c =
    let turn = YieldsList-turn (YieldsList-at c.into_iter-i-iterator.ensures.into_iter_gives (YieldsList-from_enumerate (YieldsList-at c.enumerate-i-items.ensures.source (YieldsList-from_vec c.remove-accesses.new.self.items c.into_iter.ensures.rest (c.into_iter.ensures.len ∙ c.remove-accesses.new.self.ok.0))) c.enumerate-i-items.ensures.count)) c.loop-i.yielded c.loop-i.i-iterator c.loop-i.yielded_by c.next.result c.next.new.self (c.in-Some.i, c.in-Some.accesses) c.in-Some.is c.next.ensures.steps in
    let is_turn = turn_is c.remove-accesses.new.self.items (length c.loop-i.yielded) c.in-Some.i c.in-Some.accesses turn.0 turn.1 in (
      search rules,
      tt,
      row_waits _ _ _ c.args.passes.threads.items _ _ _ _ _ _ _ c.in_ok-work.work _ _ c.requires.passes c.remove-accesses.ensures.items is_turn c.in_ok-share.ensures c.after.ensures c.in_ok-work.ensures.needs c.in_ok-work.ensures.parts c.loop-i.invariant.2
          (length_push c.loop-i.yielded (c.in-Some.i, c.in-Some.accesses)) c.in_ok-push.ensures.items,
    )

pub returns-clause-run : goal.returns-clause-run
returns-clause-run g c =
    let o = c.args.objects.now in
    let rows = c.args.passes.threads in
    let rest = c.remove-accesses.new.self in
    let end = YieldsList-end (YieldsList-at c.into_iter-i-iterator.ensures.into_iter_gives (YieldsList-from_enumerate (YieldsList-at c.enumerate-i-items.ensures.source (YieldsList-from_vec rest.items c.into_iter.ensures.rest (c.into_iter.ensures.len ∙ rest.ok.0))) c.enumerate-i-items.ensures.count)) c.loop-i.yielded c.loop-i.i-iterator c.loop-i.yielded_by c.next.result c.next.new.self c.in-None.is c.next.ensures.steps in
    let some_ = c.requires.threads.0 in
    let all_rows = c.requires.passes.count in
    let rows_long = rows.ok.0 in
    let rest_long = rest.ok.0 in
    let one_less = c.remove-accesses.ensures.len in
    let counted = long_counted rest.items 0 in
    let all_ = end.1 in
    let at_0 = first_row rows.items c.remove-accesses.result (omega (arith, some_, all_rows)) c.remove-accesses.ensures.value in
    let at_ = subst (λ (p : Plan). IsAt (scene_of p) c.in_ok-main.main) c.deref-2.ensures c.in_ok-main.ensures.at in
    prepared (scene_in o) (objects_of_all rows.items) c.in_ok-share-2.field-0 c.in_ok-main.main c.loop-i.others rows.items c.remove-accesses.result (length c.loop-i.yielded) c.in_ok-share-2.ensures c.requires.runs c.requires.made c.requires.passes at_0 at_ c.in_ok-main.ensures.list (ap (λ (t : ThreadNo). t.0) c.in_ok-main.ensures.accesses.0) c.in_ok-main.ensures.accesses.1 c.loop-i.invariant.2
    (omega (arith, rows_long, rest_long, one_less, counted, all_))

pub returns-clause-list : goal.returns-clause-list
returns-clause-list g c = (c.in_ok-main.ensures.list, no_steps_first _ _ _ c.loop-i.others.items c.loop-i.invariant.2)

pub remove-accesses-requires : goal.remove-accesses-requires
remove-accesses-requires g c =
    let count = c.requires.passes.count in
    let some_ = c.requires.threads.0 in
    let long = c.args.passes.threads.ok.0 in
    omega (arith, count, some_, long)

pub returns-clause-mains : goal.returns-clause-mains
returns-clause-mains g c = mains_first _ _ _ c.in_ok-main.main.list.items c.loop-i.others.items c.loop-i.invariant.2

pub returns-clause-none_runs : goal.returns-clause-none_runs
returns-clause-none_runs g c = none_runs_first _ _ _ c.loop-i.others.items c.loop-i.invariant.2
