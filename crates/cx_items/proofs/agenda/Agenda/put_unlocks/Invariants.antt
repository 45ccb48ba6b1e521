use Rattle.std.proofs.Common.{◌≡◌, ◌++◌, drop}
use Rattle.cx_items.specs.Calls.{each_object, gives_up}
use Rattle.cx_items.proofs.agenda.Agenda.put_unlocks.Given as goal

abbrev pub invariant-loop-i : goal.invariant-loop-i
invariant-loop-i l = l.self ≡ each_object (gives_up l.memory) l.i (drop l.i l.plan.objects.items) ++ l.initial.self
