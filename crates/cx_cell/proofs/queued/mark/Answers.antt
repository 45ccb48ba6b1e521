use Rattle.std.proofs.Common.{◌<◌, length, arith}
use Rattle.std.proofs.lemmas.Option.{slice_get-get_or}
use Rattle.cx_cell.proofs.Queues.{marked_all, marked_more, due_more, marked_whole, due_whole}
use Rattle.cx_cell.proofs.queued.mark.Goals as goal

pub loop-i-preserved : goal.loop-i-preserved
loop-i-preserved g c =
    let m = g.S.Machine.meaning c.args.state.now in
    let was = c.loop-i.invariant in
    let low : c.loop-i.i < length c.loop-i.queue = omega (arith, c.loop-i-test.true, c.loop-i.auto.queue) in
    let at = slice_get-get_or c.loop-i.queue c.loop-i.i _ low in
    let one = c.mark_one.ensures in
    (marked_more g.M.Meaning m c.args.queue.now c.loop-i.queue c.loop-i.i _ c.mark_one.new.waiter was.0 low at one.marks, due_more g.M.Meaning m c.args.queue.now c.loop-i.queue c.loop-i.i _ c.args.called.now c.loop-i.called c.mark_one.new.called was.0 at was.1 one.called)

pub returns-clause-marked : goal.returns-clause-marked
returns-clause-marked g c =
    let m = g.S.Machine.meaning c.args.state.now in
    marked_all g.M.Meaning m c.args.queue.now c.loop-i.queue (marked_whole g.M.Meaning m c.args.queue.now c.loop-i.queue c.loop-i.i (omega (arith, c.loop-i-test.false)) c.loop-i.invariant.0)

pub returns-clause-marks : goal.returns-clause-marks
returns-clause-marks g c = marked_whole g.M.Meaning (g.S.Machine.meaning c.args.state.now) c.args.queue.now c.loop-i.queue c.loop-i.i (omega (arith, c.loop-i-test.false)) c.loop-i.invariant.0

pub returns-clause-called : goal.returns-clause-called
returns-clause-called g c = due_whole g.M.Meaning (g.S.Machine.meaning c.args.state.now) c.args.queue.now c.loop-i.i c.args.called.now c.loop-i.called (omega (arith, c.loop-i-test.false)) c.loop-i.invariant.1
