use Rattle.std.proofs.Common.{◌≡◌}
use Rattle.cx_sync.specs.Onces.{IsOncePass}
use Rattle.cx_loops.proofs.flags.call_often.Given as goal

abbrev pub invariant-loop-i : goal.invariant-loop-i
invariant-loop-i g l = IsOncePass l.flag l.pass × (l.pass.left ≡ l.fn.pass.left)
