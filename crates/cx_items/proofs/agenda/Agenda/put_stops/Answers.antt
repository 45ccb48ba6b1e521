use Rattle.std.proofs.Common.{arith}
use Rattle.cx_items.specs.Calls.{stops}
use Rattle.cx_items.proofs.Ends.{thread_next}
use Rattle.cx_items.proofs.agenda.Agenda.put_stops.Goals as goal

pub loop-i-preserved : goal.loop-i-preserved
loop-i-preserved c =
    let us = c.args.plan.now.threads.items in
    thread_next (stops c.args.memory.now) us c.loop-i.i c.in_ok-u.u c.index.result.now c.args.self.now c.loop-i.self c.put_stop.new.self (omega (arith, c.args.plan.now.threads.ok.0)) c.in_ok-u.ensures c.index.ensures c.loop-i.invariant c.in_ok-put_stop.ensures
