use Rattle.std.proofs.Common.{rules, arith}
use Rattle.cx_history.specs.Views.{recorded_of}
use Rattle.cx_order.proofs.Tallying.{tally_counts}
use Rattle.cx_order.proofs.counting.completed_before.Goals as goal

pub returns : goal.returns
returns c = let h = tally_counts (recorded_of c.args.record.now) c.args.tally.now c.args.o c.args.position c.requires.tally c.requires.small c.requires.within in omega (arith, h, c.below.ensures, c.below-2.ensures)

pub overflow_sub-result : goal.overflow_sub-result
overflow_sub-result c = let h = tally_counts (recorded_of c.args.record.now) c.args.tally.now c.args.o c.args.position c.requires.tally c.requires.small c.requires.within in omega (arith, h, c.below.ensures, c.below-2.ensures)
