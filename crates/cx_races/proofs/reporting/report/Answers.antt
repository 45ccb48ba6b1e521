use Rattle.std.proofs.Common.{◌∙◌}
use Rattle.cx_races.proofs.Pairs.{none_yet, says_at_end}
use Rattle.cx_races.proofs.reporting.report.Goals as goal

pub loop-i-init : goal.loop-i-init
loop-i-init c = record { count = c.in_ok-entries.ensures.count; says = λ s r is are. none_yet s r c.args.accesses.now c.in_ok-entries.entries.items c.in_ok-entries.ensures.none }

pub loop-i-preserved : goal.loop-i-preserved
loop-i-preserved c = record { count = c.in_ok-put_pair.ensures.count ∙ c.loop-i.invariant.count; says = λ s r is are. c.in_ok-put_pair.ensures.says s r is are (c.loop-i.invariant.says s r is are) }

pub returns : goal.returns
returns c = λ s r is are. says_at_end s r c.args.accesses.now c.loop-i.i c.args.variables c.loop-i.entries.items c.loop-i-test.false c.loop-i.invariant.count (c.loop-i.invariant.says s r is are)
