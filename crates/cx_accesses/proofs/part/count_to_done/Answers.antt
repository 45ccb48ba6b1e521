use Rattle.std.proofs.Common.{sym, ◌∙◌}
use Rattle.cx_text.specs.Views.{lines_left, line_seen}
use Rattle.cx_accesses.specs.RecordPart.{count_to_done}
use Rattle.cx_accesses.proofs.PartRead.{count_on, count_ends, count_stops}
use Rattle.cx_accesses.proofs.part.count_to_done.Goals as goal

pub loop-line-preserved : goal.loop-line-preserved
loop-line-preserved c = count_on c.loop-line.count c.in_ok-count.count (count_to_done (lines_left c.args.lines)) (lines_left c.loop-line.left) (lines_left c.next.new.self) (line_seen c.in-Some.line)
    c.in-Some.ensures.steps c.in_ok-count.ensures (sym c.in_ok-ends.ensures ∙ c.if-ends.false) c.loop-line.invariant

pub returns-then-ends : goal.returns-then-ends
returns-then-ends c = count_ends c.loop-line.count c.in_ok-count.count (count_to_done (lines_left c.args.lines)) (lines_left c.loop-line.left) (lines_left c.next.new.self) (line_seen c.in-Some.line)
    c.in-Some.ensures.steps c.in_ok-count.ensures (sym c.in_ok-ends.ensures ∙ c.if-ends.true) c.loop-line.invariant

pub returns : goal.returns
returns c = count_stops c.loop-line.count (count_to_done (lines_left c.args.lines)) (lines_left c.loop-line.left) c.in_default.ensures.steps.0 c.loop-line.invariant
