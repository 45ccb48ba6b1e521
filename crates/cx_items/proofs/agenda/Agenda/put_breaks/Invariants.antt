use Rattle.std.proofs.Common.{◌≡◌, ◌++◌, drop}
use Rattle.cx_items.specs.Calls.{each_object, breaks}
use Rattle.cx_items.proofs.agenda.Agenda.put_breaks.Given as goal

abbrev pub invariant-loop-i : goal.invariant-loop-i
invariant-loop-i l = l.self ≡ each_object (breaks l.t.0 l.memory) l.i (drop l.i l.plan.objects.items) ++ l.initial.self
