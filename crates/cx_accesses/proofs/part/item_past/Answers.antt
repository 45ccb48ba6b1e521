use Rattle.std.proofs.Common.{ℕ, ap, map}
use Rattle.cx_text.specs.Views.{lines_left, line_seen}
use Rattle.cx_record.specs.RecordFaults.{read_line}
use Rattle.cx_accesses.specs.RecordPart.{item_limit, item_past}
use Rattle.cx_accesses.proofs.PartRead.{past_on, past_at, past_stops}
use Rattle.cx_accesses.proofs.part.item_past.Goals as goal

pub loop-line-init : goal.loop-line-init
loop-line-init c = ap (λ (n : ℕ). item_past n item_limit (map read_line (lines_left c.args.lines))) c.from-number.ensures

pub loop-line-preserved : goal.loop-line-preserved
loop-line-preserved c = past_on c.loop-line.number c.in_ok-number.number c.loop-line.more c.fewer-more.result (lines_left c.loop-line.left) (lines_left c.next.new.self) (line_seen c.in-Some.line) c.in_ok-says.says c.is_past-past.result
    (item_past c.args.first item_limit (map read_line (lines_left c.args.lines))) c.in-Some.ensures.steps c.in_ok-number.ensures c.in_ok-says.ensures c.is_past-past.ensures c.if-past.false c.fewer-more.ensures c.loop-line.invariant

pub returns-then-past : goal.returns-then-past
returns-then-past c = past_at c.loop-line.number c.loop-line.more (lines_left c.loop-line.left) (lines_left c.next.new.self) (line_seen c.in-Some.line) c.in_ok-says.says c.is_past-past.result
    (item_past c.args.first item_limit (map read_line (lines_left c.args.lines))) c.in-Some.ensures.steps c.in_ok-says.ensures c.is_past-past.ensures c.if-past.true c.loop-line.invariant

pub returns : goal.returns
returns c = past_stops c.loop-line.number c.loop-line.more (lines_left c.loop-line.left) (item_past c.args.first item_limit (map read_line (lines_left c.args.lines))) c.in_default.ensures.steps.0 c.loop-line.invariant
