use Rattle.std.proofs.Common.{◌≡◌, ◌≤◌, ◌+◌, ap, arith}
use Rattle.cx_object_tests.proofs.turn.meets.Goals as goal

pub act-answer-requires-clause-pass : goal.act-answer-requires-clause-pass
act-answer-requires-clause-pass g c = (_, c.split-second.ensures.first _ c.in_ok-gate.ensures.pass)

pub act-answer-requires-clause-left : goal.act-answer-requires-clause-left
act-answer-requires-clause-left g c = let f = c.split-second.ensures.first _ c.in_ok-gate.ensures.pass in omega (arith, f.counted.may)

pub meet-requires-clause-from : goal.meet-requires-clause-from
meet-requires-clause-from g c = let a = c.act-answer.ensures _ (c.split-second.ensures.first _ c.in_ok-gate.ensures.pass) in (a.0, a.1)

pub meet-requires-clause-to : goal.meet-requires-clause-to
meet-requires-clause-to g c = (_, c.split-second.ensures.second _ c.in_ok-gate.ensures.pass)
