use Rattle.std.proofs.Common.{arith}
use Rattle.cx_io.proofs.Moves.{written_more}
use Rattle.cx_io.proofs.moving.write_all.Goals as goal

pub loop-rest-preserved : goal.loop-rest-preserved
loop-rest-preserved g c = record {
  told = rw c.split_at.ensures.back (written_more _ _ _ _ c.loop-rest.rest.now c.in-Took.count c.loop-rest.invariant.told c.in-Took.ensures.bytes);
  later = omega (arith, c.in-Took.ensures.cause);
}
