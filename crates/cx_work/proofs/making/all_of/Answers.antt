use Rattle.std.proofs.Common.{◌*◌, ap, refl, sym}
use Rattle.cx_work.specs.RunNow.{share_at}
use Rattle.cx_work.proofs.Shares.{counts_go_on, counts_end}
use Rattle.cx_work.proofs.Rows.{declared_made, none_made, one_more_pushed, all_made, all_new}
use Rattle.cx_work.proofs.making.all_of.Goals as goal

pub loop-object-init : goal.loop-object-init
loop-object-init c = (none_made c.args.declared.now c.args.threads (131072 * c.args.threads) c.in_ok-all.all.items c.in_ok-all.ensures.items, λ o. ap (λ ks. share_at ks o) c.in_ok-all.ensures.items)

pub loop-object-preserved : goal.loop-object-preserved
loop-object-preserved c =
    let ds = c.args.declared.now in
    let i = c.loop-object.object-index in
    let ks = c.loop-object.all.items in
    let k = c.in_ok-access.access in
    let so_far = c.loop-object.invariant in (
      one_more_pushed ds i c.args.threads ks c.push.new.self.items c.object-item.result k so_far.0 c.loop-object-test.true c.object-item.is c.in_ok-access.ensures.new c.in_ok-access.ensures.object c.in_ok-access.ensures.free c.in_ok-push.ensures.items,
      counts_go_on ds i ks c.push.new.self.items c.object-item.result k _ c.loop-object-test.true c.object-item.is refl so_far.0.count so_far.1 (sym c.in_ok-access.ensures.new.seen.shared) c.in_ok-push.ensures.items,
    )

pub returns-clause-objects : goal.returns-clause-objects
returns-clause-objects c = all_made c.args.declared.now c.loop-object.object-index c.args.threads (131072 * c.args.threads) c.loop-object.all.items c.loop-object-test.false c.loop-object.invariant.0

pub returns-clause-new : goal.returns-clause-new
returns-clause-new c = all_new c.args.declared.now c.loop-object.object-index c.args.threads (131072 * c.args.threads) c.loop-object.all.items c.loop-object.invariant.0

pub returns-clause-shares : goal.returns-clause-shares
returns-clause-shares c = counts_end c.args.declared.now c.loop-object.object-index c.loop-object.all.items c.loop-object-test.false c.loop-object.invariant.1

pub made-requires-clause-now : goal.made-requires-clause-now
made-requires-clause-now c = declared_made c.args.declared.now c.loop-object.object-index c.object-item.result c.requires.now c.loop-object-test.true c.object-item.is
