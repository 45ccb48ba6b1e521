use Rattle.std.proofs.Common.{◌∙◌, sym, arith}
use Rattle.cx_turn.specs.Views.{split_left}
use Rattle.cx_object_tests.proofs.turn.relay.Goals as goal

pub split-other-requires-clause-pass : goal.split-other-requires-clause-pass
split-other-requires-clause-pass g c = let a = c.act-first.ensures _ c.in_ok-gate.ensures.pass in (a.0, a.1)

pub split-other-requires-clause-first : goal.split-other-requires-clause-first
split-other-requires-clause-first g c = let a = c.act-first.ensures _ c.in_ok-gate.ensures.pass in sym a.1.numbered ∙ a.2.number

pub split-other-requires-clause-seats : goal.split-other-requires-clause-seats
split-other-requires-clause-seats g c = let a = c.act-first.ensures _ c.in_ok-gate.ensures.pass in omega (arith, a.1.splits, a.2.splits, c.in_ok-gate.ensures.turn.1)

pub split-other-requires-clause-calls : goal.split-other-requires-clause-calls
split-other-requires-clause-calls g c = let a = c.act-first.ensures _ c.in_ok-gate.ensures.pass in omega (arith, a.1.counted.may, a.2.left)

pub act-second-requires-clause-pass : goal.act-second-requires-clause-pass
act-second-requires-clause-pass g c = let a = c.act-first.ensures _ c.in_ok-gate.ensures.pass in (_, c.split-other.ensures.second a.0 a.1)

pub act-second-requires-clause-left : goal.act-second-requires-clause-left
act-second-requires-clause-left g c = let a = c.act-first.ensures _ c.in_ok-gate.ensures.pass in omega (arith, (c.split-other.ensures.second a.0 a.1).counted.may)

pub end-len-requires-clause-first : goal.end-len-requires-clause-first
end-len-requires-clause-first g c = let a = c.act-first.ensures _ c.in_ok-gate.ensures.pass in (split_left a.0 1, c.split-other.ensures.first a.0 a.1, a.2.number, omega (arith, a.2.splits))

pub end-len-requires-clause-second : goal.end-len-requires-clause-second
end-len-requires-clause-second g c =
    let a = c.act-first.ensures _ c.in_ok-gate.ensures.pass in
    let b = c.act-second.ensures _ (c.split-other.ensures.second a.0 a.1) in
    (b.0, b.1, omega (arith, b.2.number, a.2.splits))
