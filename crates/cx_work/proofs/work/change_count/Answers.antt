use Rattle.std.proofs.Common.{arith, ◌≡◌, ◌+◌, take}
use Rattle.cx_fronts.specs.Counts.{change_count}
use Rattle.cx_work.proofs.Counting.{one_more_counted}
use Rattle.cx_work.proofs.work.change_count.Goals as goal

pub loop-i-preserved : goal.loop-i-preserved
loop-i-preserved c =
    let step : change_count (take (c.loop-i.i + 1) c.args.list.now) ≡ change_count (take c.loop-i.i c.args.list.now) + c.is_change-count.result = one_more_counted c.args.list.now c.loop-i.i _ c.is_change-count.result c.loop-i-test.true c.is_change-count.ensures.count in
    let one = c.is_change-count.ensures.one in
    let so_far = c.loop-i.invariant.0 in
    let few = c.loop-i.invariant.1 in
    (omega (arith, step, so_far), omega (arith, few, one))
