use Rattle.std.proofs.Common.{sym, subst}
use Rattle.cx_text.specs.Views.{lines_left, line_seen}
use Rattle.cx_scenario.specs.Steps.{State}
use Rattle.cx_scenario.specs.Views.{state_of}
use Rattle.cx_scenario.proofs.Going.{IsGoing, going_start}
use Rattle.cx_scenario.proofs.Ending.{line_fault_is, line_taken, all_read}
use Rattle.cx_scenario.proofs.reading.read_lines.Goals as goal

pub loop-line-init : goal.loop-line-init
loop-line-init c = subst (λ (s : State). IsGoing (lines_left c.args.lines) 0 (lines_left c.args.lines) s) (sym c.requires) (going_start (lines_left c.args.lines))

pub returns-in-Some-fault : goal.returns-in-Some-fault
returns-in-Some-fault c =
    line_fault_is (lines_left c.args.lines) c.loop-line.count c.in_ok-number.number (line_seen c.in-Some.line) (lines_left c.loop-line.left) (lines_left c.next.new.self) (state_of c.loop-line.reader) _ c.in_ok-fault.fault
    c.loop-line.invariant c.in-Some.ensures.steps c.in_ok-number.ensures c.in_ok-fault.ensures c.in-Some-fault.kind c.in-Some-fault.is

pub loop-line-preserved : goal.loop-line-preserved
loop-line-preserved c =
    line_taken (lines_left c.args.lines) c.loop-line.count c.in_ok-number.number (line_seen c.in-Some.line) (lines_left c.loop-line.left) (lines_left c.next.new.self) (state_of c.loop-line.reader) (state_of c.take_line.new.self) c.in_ok-fault.fault
    c.loop-line.invariant c.in-Some.ensures.steps c.in_ok-number.ensures c.in_ok-fault.ensures c.in-None.is

pub returns : goal.returns
returns c = all_read (lines_left c.args.lines) c.loop-line.count (lines_left c.loop-line.left) (state_of c.loop-line.reader) _ c.loop-line.invariant c.in_default.ensures.steps.0 c.in_ok-fault-2.ensures
