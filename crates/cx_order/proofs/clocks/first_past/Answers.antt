use Rattle.std.proofs.Common.{◌≡◌, ◌∙◌, sym}
use Rattle.cx_order.proofs.Clocked.{none_more}
use Rattle.cx_order.proofs.clocks.first_past.Goals as goal

pub loop-i-preserved : goal.loop-i-preserved
loop-i-preserved c = none_more c.args.clock.now.values.items c.args.first c.loop-i.i c.loop-i.invariant (sym c.is_past-past.ensures ∙ c.if-past.false)
