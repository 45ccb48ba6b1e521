use Rattle.std.proofs.Common.{arith}
use Rattle.cx_checker.proofs.Knowing.{start_found, start_later_at, start_past, start_none}
use Rattle.cx_checker.proofs.known.start_of.Goals as goal

pub returns-then-start-t : goal.returns-then-start-t
returns-then-start-t c = record {
  found = λ o b got. start_found o c.args.t c.loop-i.i c.args.begun.now c.index-begun-i.result b _ c.loop-i-test.true c.index-begun-i.is c.if-start-t.true got (c.loop-i.invariant o);
  none = λ o past. absurd (omega (arith, past, c.loop-i-test.true));
}

pub loop-i-preserved : goal.loop-i-preserved
loop-i-preserved c = λ o. start_later_at o c.args.t c.loop-i.i c.args.begun.now c.index-begun-i.result _ c.loop-i-test.true c.index-begun-i.is c.if-start-t.false (c.loop-i.invariant o)

pub returns : goal.returns
returns c = record {
  found = λ o b got. absurd (start_past c.args.begun.now b got);
  none = λ o past. start_none o c.args.t c.loop-i.i c.args.begun.now _ c.loop-i-test.false (c.loop-i.invariant o);
}
