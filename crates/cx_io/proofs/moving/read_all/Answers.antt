use Rattle.std.proofs.Common.{arith, rules}
use Rattle.cx_io.proofs.Moves.{read_more, short_more}
use Rattle.cx_io.proofs.moving.read_all.Goals as goal

pub loop-piece-preserved : goal.loop-piece-preserved
loop-piece-preserved g c = record {
  short = rw c.in-Ok.ensures.items (short_more c.loop-piece.bytes.items c.split_at.result.0.now c.args.limit c.in-Got.count c.min-most.result c.split_at.ensures.front_len (search rules) (search rules) c.loop-piece.invariant.short);
  told = rw (c.in-Ok.ensures.items, c.split_at.ensures.front) (read_more _ _ _ c.loop-piece.bytes.items c.pull.new.out c.in-Got.count c.loop-piece.invariant.told c.in-Got.ensures.bytes);
  later = omega (arith, c.in-Got.ensures.cause);
}
