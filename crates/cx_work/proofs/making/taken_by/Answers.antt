use Rattle.std.proofs.Common.{ap, ◌∙◌}
use Rattle.cx_asks.specs.Scenes.{takes_of}
use Rattle.cx_work.proofs.Shares.{one_more_taken}
use Rattle.cx_work.proofs.making.taken_by.Goals as goal

pub loop-i-preserved : goal.loop-i-preserved
loop-i-preserved c = one_more_taken c.args.o c.args.calls.now c.loop-i.i c.index-calls-i.result c.takes_of.result c.loop-i.taken c.saturating_add-taken.result c.loop-i-test.true (c.takes_of.ensures ∙ ap (takes_of c.args.o) c.index-calls-i.is) c.loop-i.invariant c.saturating_add-taken.ensures
