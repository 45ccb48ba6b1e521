use Rattle.std.proofs.Common.{get_or, length, rules, ◌∙◌}
use Rattle.std.proofs.lemmas.List.{length_push}
use Rattle.std.proofs.lemmas.Iterator.Consumers.{YieldsList-turn, YieldsList-end, YieldsList-from_enumerate, YieldsList-at}
use Rattle.std.proofs.lemmas.Iterator.Adapters.{YieldsList-from_vec}
use Rattle.cx_work.specs.Accesses.{objects_of}
use Rattle.cx_run.proofs.Passed.{none_gone, turn_is, next_access, next_other, seen_here, same_object, one_taken, all_taken}
use Rattle.cx_run.proofs.handing.take_all_in.Goals as goal

pub loop-i-init : goal.loop-i-init
loop-i-init c = (search rules, tt, none_gone _ _)

pub join-requires-clause-seen : goal.join-requires-clause-seen
join-requires-clause-seen c =
    let xs = objects_of c.args.accesses.now in
    let i = c.in-Some.i in
    let d = c.index-accesses-i.result in
    let yields = YieldsList-turn (YieldsList-at c.into_iter-i-iterator.ensures.into_iter_gives (YieldsList-from_enumerate (YieldsList-at c.enumerate-i-items.ensures.source (YieldsList-from_vec c.args.others.items c.into_iter.ensures.rest (c.into_iter.ensures.len ∙ c.args.others.ok.0))) c.enumerate-i-items.ensures.count)) c.loop-i.yielded c.loop-i.i-iterator c.loop-i.yielded_by c.next.result c.next.new.self (c.in-Some.i, c.in-Some.other) c.in-Some.is c.next.ensures.steps in
    let turn = turn_is c.args.others.items (length c.loop-i.yielded) i c.in-Some.other yields.0 yields.1 in
    seen_here xs i (get_or c.loop-i.accesses i d) (next_access xs _ _ c.args.others.items _ _ i d c.in-Some.other c.requires.accesses c.requires.others c.loop-i.invariant.2 turn)

pub join-requires-clause-other : goal.join-requires-clause-other
join-requires-clause-other c =
    let xs = objects_of c.args.accesses.now in
    let i = c.in-Some.i in
    let d = c.index-accesses-i.result in
    let yields = YieldsList-turn (YieldsList-at c.into_iter-i-iterator.ensures.into_iter_gives (YieldsList-from_enumerate (YieldsList-at c.enumerate-i-items.ensures.source (YieldsList-from_vec c.args.others.items c.into_iter.ensures.rest (c.into_iter.ensures.len ∙ c.args.others.ok.0))) c.enumerate-i-items.ensures.count)) c.loop-i.yielded c.loop-i.i-iterator c.loop-i.yielded_by c.next.result c.next.new.self (c.in-Some.i, c.in-Some.other) c.in-Some.is c.next.ensures.steps in
    let turn = turn_is c.args.others.items (length c.loop-i.yielded) i c.in-Some.other yields.0 yields.1 in
    seen_here xs i c.in-Some.other (next_other xs c.args.others.items _ i c.in-Some.other c.requires.others turn)

pub join-requires-clause-same : goal.join-requires-clause-same
join-requires-clause-same c =
    let xs = objects_of c.args.accesses.now in
    let i = c.in-Some.i in
    let d = c.index-accesses-i.result in
    let yields = YieldsList-turn (YieldsList-at c.into_iter-i-iterator.ensures.into_iter_gives (YieldsList-from_enumerate (YieldsList-at c.enumerate-i-items.ensures.source (YieldsList-from_vec c.args.others.items c.into_iter.ensures.rest (c.into_iter.ensures.len ∙ c.args.others.ok.0))) c.enumerate-i-items.ensures.count)) c.loop-i.yielded c.loop-i.i-iterator c.loop-i.yielded_by c.next.result c.next.new.self (c.in-Some.i, c.in-Some.other) c.in-Some.is c.next.ensures.steps in
    let turn = turn_is c.args.others.items (length c.loop-i.yielded) i c.in-Some.other yields.0 yields.1 in
    same_object xs i c.in-Some.other (get_or c.loop-i.accesses i d) (next_other xs c.args.others.items _ i c.in-Some.other c.requires.others turn) (next_access xs _ _ c.args.others.items _ _ i d c.in-Some.other c.requires.accesses c.requires.others c.loop-i.invariant.2 turn)

pub loop-i-preserved : goal.loop-i-preserved
loop-i-preserved c =
    let xs = objects_of c.args.accesses.now in
    let i = c.in-Some.i in
    let d = c.index-accesses-i.result in
    let yields = YieldsList-turn (YieldsList-at c.into_iter-i-iterator.ensures.into_iter_gives (YieldsList-from_enumerate (YieldsList-at c.enumerate-i-items.ensures.source (YieldsList-from_vec c.args.others.items c.into_iter.ensures.rest (c.into_iter.ensures.len ∙ c.args.others.ok.0))) c.enumerate-i-items.ensures.count)) c.loop-i.yielded c.loop-i.i-iterator c.loop-i.yielded_by c.next.result c.next.new.self (c.in-Some.i, c.in-Some.other) c.in-Some.is c.next.ensures.steps in
    let turn = turn_is c.args.others.items (length c.loop-i.yielded) i c.in-Some.other yields.0 yields.1 in
    let e = c.join.ensures in (
      search rules,
      tt,
      one_taken xs _ _ c.args.others.items _ _ i d c.in-Some.other _ c.requires.accesses c.requires.others c.loop-i.invariant.2 turn (record { object = e.object; kept = e.kept; joined = e.seen }) (length_push c.loop-i.yielded (c.in-Some.i, c.in-Some.other)),
    )

pub returns : goal.returns
returns c =
    let end = YieldsList-end (YieldsList-at c.into_iter-i-iterator.ensures.into_iter_gives (YieldsList-from_enumerate (YieldsList-at c.enumerate-i-items.ensures.source (YieldsList-from_vec c.args.others.items c.into_iter.ensures.rest (c.into_iter.ensures.len ∙ c.args.others.ok.0))) c.enumerate-i-items.ensures.count)) c.loop-i.yielded c.loop-i.i-iterator c.loop-i.yielded_by c.next.result c.next.new.self c.in-None.is c.next.ensures.steps in
    all_taken (objects_of c.args.accesses.now) _ _ c.args.others.items _ c.requires.accesses c.requires.others c.loop-i.invariant.2 end.1
