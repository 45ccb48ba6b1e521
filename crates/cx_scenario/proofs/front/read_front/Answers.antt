use Rattle.std.proofs.Common.{sym, subst}
use Rattle.cx_text.specs.Views.{lines_left, line_seen}
use Rattle.cx_scenario.specs.Steps.{State}
use Rattle.cx_scenario.specs.Views.{state_of}
use Rattle.cx_scenario.proofs.Fronts.{IsFronting, front_start, step_fault, step_over, step_on, front_done}
use Rattle.cx_scenario.proofs.front.read_front.Goals as goal

pub loop-line-init : goal.loop-line-init
loop-line-init c = subst (λ (s : State). IsFronting (lines_left c.args.lines) (lines_left c.args.lines) 0 s) (sym c.requires) (front_start (lines_left c.args.lines))

pub returns-in-Some-fault : goal.returns-in-Some-fault
returns-in-Some-fault c = step_fault (lines_left c.args.lines) c.loop-line.count c.in_ok-number.number (line_seen c.in-Some.line) (lines_left c.loop-line.left) (lines_left c.next.new.self) (state_of c.loop-line.reader) (state_of c.take_line.new.self) c.in_ok-fault.fault
    c.loop-line.invariant c.in-Some.ensures.steps c.in_ok-number.ensures c.in_ok-fault.ensures c.in-Some-fault.kind c.in-Some-fault.is

pub returns-then-over : goal.returns-then-over
returns-then-over c = step_over (lines_left c.args.lines) c.loop-line.count c.in_ok-number.number (line_seen c.in-Some.line) (lines_left c.loop-line.left) (lines_left c.next.new.self) (state_of c.loop-line.reader) (state_of c.take_line.new.self) c.in_ok-fault.fault
    c.loop-line.invariant c.in-Some.ensures.steps c.in_ok-number.ensures c.in_ok-fault.ensures c.in_default-fault.is c.is_over-over.result c.is_over-over.ensures c.if-over.true

pub loop-line-preserved : goal.loop-line-preserved
loop-line-preserved c = step_on (lines_left c.args.lines) c.loop-line.count c.in_ok-number.number (line_seen c.in-Some.line) (lines_left c.loop-line.left) (lines_left c.next.new.self) (state_of c.loop-line.reader) (state_of c.take_line.new.self) c.in_ok-fault.fault
    c.loop-line.invariant c.in-Some.ensures.steps c.in_ok-number.ensures c.in_ok-fault.ensures c.in_default-fault.is c.is_over-over.result c.is_over-over.ensures c.if-over.false

pub returns : goal.returns
returns c = front_done (lines_left c.args.lines) (lines_left c.loop-line.left) c.loop-line.count (state_of c.loop-line.reader) c.in_ok-fault-2.fault c.loop-line.invariant c.in_default.ensures.steps.0 c.in_ok-fault-2.ensures
