use Rattle.std.proofs.Common.{◌<◌, ◌∙◌, refl, sym, subst}
use Rattle.cx_names.specs.declared.ThreadNo.{ThreadNo}
use Rattle.cx_scene.specs.Scene.{scene_of}
use Rattle.cx_work.proofs.Bodying.{own_made, own_accesses, before_accesses, still_underway, next_still, no_control_next, makes_one_more}
use Rattle.cx_work.proofs.work.make_all.Goals as goal

pub loop-init : goal.loop-init
loop-init g c = (tt, tt, refl, c.requires.under_way)

pub loop-preserved : goal.loop-preserved
loop-preserved g c =
    let s = scene_of c.args.plan.now in
    let before = c.args.standing.now.accesses.items in
    let known = still_underway s before c.enter.new.self c.next-in-loop.new.self c.next-in-loop.ensures.same (still_underway s before c.loop.standing c.enter.new.self c.enter.ensures c.loop.invariant.3) in
    let v2 = c.next-in-loop.new.self in
    let v3 = c.make.new.self in
    let made = makes_one_more s before v2.thread v3.thread v2.accesses v3.accesses v2.list v3.list v2.local v3.local c.in_ok-item.item c.requires.made known c.make.ensures.thread c.make.ensures.accesses c.in_ok-item.ensures.list c.in_ok-item.ensures.steps c.in_ok-item.ensures.alone c.in_ok-item.ensures.at in
    (tt, tt, c.leave.ensures.0 ∙ (c.make.ensures.thread ∙ (c.next-in-loop.ensures.same.0 ∙ (c.enter.ensures.0 ∙ c.loop.invariant.2))), still_underway s before v3 c.leave.new.self c.leave.ensures made)

pub make-requires-clause-accesses : goal.make-requires-clause-accesses
make-requires-clause-accesses g c =
    let s = scene_of c.args.plan.now in
    let before = c.args.standing.now.accesses.items in
    let known = still_underway s before c.enter.new.self c.next-in-loop.new.self c.next-in-loop.ensures.same (still_underway s before c.loop.standing c.enter.new.self c.enter.ensures c.loop.invariant.3) in
    own_accesses before c.next-in-loop.new.self.thread.0 c.next-in-loop.new.self.accesses.items known.accesses

pub make-requires-clause-made : goal.make-requires-clause-made
make-requires-clause-made g c =
    let s = scene_of c.args.plan.now in
    let before = c.args.standing.now.accesses.items in
    let known = still_underway s before c.enter.new.self c.next-in-loop.new.self c.next-in-loop.ensures.same (still_underway s before c.loop.standing c.enter.new.self c.enter.ensures c.loop.invariant.3) in
    own_made s before c.next-in-loop.new.self.thread.0 c.next-in-loop.new.self.accesses.items known.accesses c.requires.made

pub make-requires-clause-at : goal.make-requires-clause-at
make-requires-clause-at g c =
    let s = scene_of c.args.plan.now in
    let before = c.args.standing.now.accesses.items in
    let known = still_underway s before c.enter.new.self c.next-in-loop.new.self c.next-in-loop.ensures.same (still_underway s before c.loop.standing c.enter.new.self c.enter.ensures c.loop.invariant.3) in
    known.at_

pub make-requires-clause-alone : goal.make-requires-clause-alone
make-requires-clause-alone g c =
    let s = scene_of c.args.plan.now in
    let before = c.args.standing.now.accesses.items in
    let n = c.next-in-loop.new.self in
    let known = still_underway s before c.enter.new.self n c.next-in-loop.ensures.same (still_underway s before c.loop.standing c.enter.new.self c.enter.ensures c.loop.invariant.3) in
    let next = next_still s c.enter.new.self.thread n.thread c.enter.new.self.local n.local c.in_ok-next.field-0 n.forms.items c.if-not-branch.false c.next-in-loop.ensures.same.0 c.next-in-loop.ensures.same.3 c.in_ok-next.ensures.next in
    let thread = c.next-in-loop.ensures.same.0 ∙ (c.enter.ensures.0 ∙ c.loop.invariant.2) in
    no_control_next s n.thread.0 n.accesses.items n.list.items n.local n.forms.items c.requires.asks (subst (λ (t : ThreadNo). 0 < t.0) (sym thread) c.requires.other) (own_accesses before n.thread.0 n.accesses.items known.accesses) known.at_ next.0

pub make-requires-clause-next : goal.make-requires-clause-next
make-requires-clause-next g c =
    let v1 = c.enter.new.self in
    let v2 = c.next-in-loop.new.self in
    next_still (scene_of c.args.plan.now) v1.thread v2.thread v1.local v2.local c.in_ok-next.field-0 v2.forms.items c.if-not-branch.false c.next-in-loop.ensures.same.0 c.next-in-loop.ensures.same.3 c.in_ok-next.ensures.next

pub returns-in_err-item-clause-accesses : goal.returns-in_err-item-clause-accesses
returns-in_err-item-clause-accesses g c =
    let s = scene_of c.args.plan.now in
    let before = c.args.standing.now.accesses.items in
    let n = c.next-in-loop.new.self in
    let known = still_underway s before c.enter.new.self n c.next-in-loop.ensures.same (still_underway s before c.loop.standing c.enter.new.self c.enter.ensures c.loop.invariant.3) in
    before_accesses before n.thread.0 c.make.new.self.thread.0 n.accesses.items c.make.new.self.accesses.items known.accesses c.make.ensures.accesses
