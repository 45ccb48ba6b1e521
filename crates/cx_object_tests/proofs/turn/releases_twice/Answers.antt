use Rattle.std.proofs.Common.{arith}
use Rattle.cx_object_tests.proofs.turn.releases_twice.Goals as goal

pub act_at_once-second-requires-clause-pass : goal.act_at_once-second-requires-clause-pass
act_at_once-second-requires-clause-pass g c = let a = c.act_at_once.ensures _ c.in_ok-gate.ensures.pass in (a.0, a.1)

pub act_at_once-second-requires-clause-left : goal.act_at_once-second-requires-clause-left
act_at_once-second-requires-clause-left g c = let a = c.act_at_once.ensures _ c.in_ok-gate.ensures.pass in omega (arith, a.1.counted.may, a.2.left)
