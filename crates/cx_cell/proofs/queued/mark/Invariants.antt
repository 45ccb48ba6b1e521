use Rattle.cx_cell.specs.Queue.{Calls}
use Rattle.cx_cell.proofs.Queues.{MarkedTo, DueBefore}
use Rattle.cx_cell.proofs.queued.mark.Given as goal

abbrev pub invariant-loop-i : goal.invariant-loop-i
invariant-loop-i g l = MarkedTo g.M.Meaning (g.S.Machine.meaning l.state) l.initial.queue l.i l.queue × Calls (DueBefore g.M.Meaning (g.S.Machine.meaning l.state) l.initial.queue l.i) l.initial.called l.called
