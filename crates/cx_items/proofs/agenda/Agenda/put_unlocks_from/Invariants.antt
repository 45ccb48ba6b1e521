use Rattle.std.proofs.Common.{◌≡◌, ◌++◌, take}
use Rattle.std.specs.Prelude.{reverse}
use Rattle.cx_items.specs.Next.{unlocks}
use Rattle.cx_items.proofs.agenda.Agenda.put_unlocks_from.Given as goal

abbrev pub invariant-loop-o : goal.invariant-loop-o
invariant-loop-o l = l.self ≡ unlocks (reverse (take l.o-index l.o-items)) ++ l.initial.self
