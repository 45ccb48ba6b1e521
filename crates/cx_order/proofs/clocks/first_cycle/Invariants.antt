use Rattle.std.proofs.Common.{ℕ, ◌<◌}
use Rattle.cx_history.specs.Views.{recorded_of}
use Rattle.cx_order.specs.Graphs.{IsPast}
use Rattle.cx_order.proofs.clocks.first_cycle.Given as goal

abbrev pub invariant-loop-t : goal.invariant-loop-t
invariant-loop-t l = (u j : ℕ) → u < l.t → IsPast (recorded_of l.parts.record.now) l.clocks u j → ⊥
