use Rattle.std.proofs.Common.{ℕ, ◌<◌}
use Rattle.cx_order.specs.Graphs.{PastIn}
use Rattle.cx_order.proofs.clocks.first_past.Given as goal

abbrev pub invariant-loop-i : goal.invariant-loop-i
invariant-loop-i l = (j : ℕ) → j < l.i → PastIn l.clock.values.items l.first j → ⊥
