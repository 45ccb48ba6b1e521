use Rattle.std.proofs.Common.{get_or, slice_get, subst, arith}
use Rattle.cx_kinds.specs.declared.access.Access.{Access}
use Rattle.cx_work.specs.Accesses.{objects_of}
use Rattle.cx_run.specs.Handing.{HasMet}
use Rattle.cx_run.proofs.Passed.{none_gone, one_gone, all_gone, is_one, was_at, still_access, seen_here, same_object}
use Rattle.cx_run.proofs.handing.meet_all.Goals as goal

pub loop-i-init : goal.loop-i-init
loop-i-init c = record { from = none_gone _ _; to = none_gone _ _ }

pub meet-requires-clause-seen : goal.meet-requires-clause-seen
meet-requires-clause-seen c =
    let xs = objects_of c.args.from.now in
    let i = c.loop-i.i in
    let from = get_or c.loop-i.from i c.index-from-i.result in
    seen_here xs i from (still_access xs _ _ _ i c.index-from-i.result c.requires.from c.loop-i.invariant.from c.loop-i-test.true)

pub meet-requires-clause-other : goal.meet-requires-clause-other
meet-requires-clause-other c =
    let xs = objects_of c.args.from.now in
    let i = c.loop-i.i in
    let to = get_or c.loop-i.to i c.index-to-i.result in
    let low = c.loop-i-test.true in
    let a = c.requires.from.1.count in
    let b = c.requires.to.1.count in
    seen_here xs i to (still_access xs _ _ _ i c.index-to-i.result c.requires.to c.loop-i.invariant.to (omega (arith, low, a, b)))

pub meet-requires-clause-same : goal.meet-requires-clause-same
meet-requires-clause-same c =
    let xs = objects_of c.args.from.now in
    let i = c.loop-i.i in
    let from = get_or c.loop-i.from i c.index-from-i.result in
    let to = get_or c.loop-i.to i c.index-to-i.result in
    let low = c.loop-i-test.true in
    let a = c.requires.from.1.count in
    let b = c.requires.to.1.count in
    same_object xs i to from (still_access xs _ _ _ i c.index-to-i.result c.requires.to c.loop-i.invariant.to (omega (arith, low, a, b))) (still_access xs _ _ _ i c.index-from-i.result c.requires.from c.loop-i.invariant.from low)

pub loop-i-preserved : goal.loop-i-preserved
loop-i-preserved c =
    let i = c.loop-i.i in
    let low = c.loop-i-test.true in
    let a = c.requires.from.1.count in
    let b = c.requires.to.1.count in
    let from = get_or c.loop-i.from i c.index-from-i.result in
    let to = get_or c.loop-i.to i c.index-to-i.result in
    let at_from = was_at _ _ _ i c.index-from-i.result c.loop-i.invariant.from low in
    let at_to = was_at _ _ _ i c.index-to-i.result c.loop-i.invariant.to (omega (arith, low, a, b)) in
    let e = c.meet.ensures in
    let met : HasMet from to c.meet.new.other = record { object = e.objects.1; kept = e.kept.1; met = e.to } in
    record {
      from = one_gone _ _ _ i from c.meet.new.self c.loop-i.invariant.from at_from (record { object = e.objects.0; kept = e.kept.0; stays = e.from });
      to = one_gone _ _ _ i to c.meet.new.other c.loop-i.invariant.to at_to
          (λ other at_other. subst (λ (z : Access). HasMet z to c.meet.new.other) (is_one (slice_get c.args.from.now i) from other at_from at_other) met);
    }

pub returns-clause-from : goal.returns-clause-from
returns-clause-from c = all_gone _ _ _ c.loop-i.i c.loop-i.invariant.from c.loop-i-test.false

pub returns-clause-to : goal.returns-clause-to
returns-clause-to c =
    let end = c.loop-i-test.false in
    let a = c.requires.from.1.count in
    let b = c.requires.to.1.count in
    all_gone _ _ _ c.loop-i.i c.loop-i.invariant.to (omega (arith, end, a, b))
