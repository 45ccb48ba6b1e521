use Rattle.std.proofs.Common.{◌≡◌, ◌++◌, replicate, None}
use Rattle.cx_replay.proofs.outcome.opening_runners.Given as goal

abbrev pub invariant-loop-other : goal.invariant-loop-other
invariant-loop-other l = l.runners.items ≡ l.initial.runners.items ++ replicate l._other None
