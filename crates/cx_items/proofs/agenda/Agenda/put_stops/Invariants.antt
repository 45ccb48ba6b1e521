use Rattle.std.proofs.Common.{◌≡◌, ◌++◌, take}
use Rattle.cx_items.specs.Calls.{each_thread, stops}
use Rattle.cx_items.proofs.agenda.Agenda.put_stops.Given as goal

abbrev pub invariant-loop-i : goal.invariant-loop-i
invariant-loop-i l = l.self ≡ each_thread (stops l.memory) 0 (take l.i l.plan.threads.items) ++ l.initial.self
