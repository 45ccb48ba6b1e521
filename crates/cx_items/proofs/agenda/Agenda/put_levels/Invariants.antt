use Rattle.std.proofs.Common.{◌≡◌, ◌++◌}
use Rattle.std.specs.Prelude.{replicate}
use Rattle.cx_items.specs.Calls.{unlock}
use Rattle.cx_items.proofs.agenda.Agenda.put_levels.Given as goal

abbrev pub invariant-loop-level : goal.invariant-loop-level
invariant-loop-level l = l.self ≡ replicate l._level (unlock l.o) ++ l.initial.self
