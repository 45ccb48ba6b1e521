use Rattle.std.proofs.Common.{arith}
use Rattle.cx_scenario.proofs.Fronts.{bytes_on}
use Rattle.cx_accesses.proofs.part.bytes_of.Goals as goal

pub loop-i-preserved : goal.loop-i-preserved
loop-i-preserved c = record {
  so_far = bytes_on c.args.count c.loop-i.i c.loop-i.bytes c.line_bytes-here.result c.loop-i.rest.now c.split_at.result.1.now _ c.loop-i-test.true c.line_bytes-here.ensures c.split_at.ensures.back c.loop-i.invariant.so_far;
  within = omega (arith, c.loop-i.invariant.within, c.split_at.ensures.back_len);
}
