use Rattle.std.proofs.Common.{ℕ, sym, subst}
use Rattle.cx_text.specs.Views.{lines_left, line_seen}
use Rattle.cx_record.specs.RecordSteps.{State}
use Rattle.cx_record.specs.RosterSeen.{roster_seen}
use Rattle.cx_record.specs.ReaderSeen.{state_of}
use Rattle.cx_record.proofs.GoingOn.{IsGoing, going_start, line_fault_is, line_taken, end_fine, end_fault}
use Rattle.cx_record.proofs.parsing.read_lines.Goals as goal

pub loop-line-init : goal.loop-line-init
loop-line-init c =
    subst (λ (n : ℕ). IsGoing (roster_seen c.args.reader.now.roster) c.args.first (lines_left c.args.lines) n (lines_left c.args.lines) (state_of c.args.reader.now)) (sym c.from-number.ensures)
    (subst (λ (s : State). IsGoing (roster_seen c.args.reader.now.roster) c.args.first (lines_left c.args.lines) c.args.first (lines_left c.args.lines) s) (sym c.requires)
    (going_start (roster_seen c.args.reader.now.roster) c.args.first (lines_left c.args.lines)))

pub returns-in-Some-fault : goal.returns-in-Some-fault
returns-in-Some-fault c =
    line_fault_is (roster_seen c.args.reader.now.roster) c.args.first (lines_left c.args.lines) c.loop-line.number (line_seen c.in-Some.line) (lines_left c.loop-line.left) (lines_left c.next.new.self)
    (state_of c.loop-line.reader) (state_of c.take_line.new.self) c.in_ok-fault.fault c.loop-line.invariant c.in-Some.ensures.steps c.in_ok-fault.ensures c.in-Some-fault.kind c.in-Some-fault.is

pub loop-line-preserved : goal.loop-line-preserved
loop-line-preserved c =
    line_taken (roster_seen c.args.reader.now.roster) c.args.first (lines_left c.args.lines) c.loop-line.number (line_seen c.in-Some.line) (lines_left c.loop-line.left) (lines_left c.next.new.self)
    (state_of c.loop-line.reader) (state_of c.take_line.new.self) c.in_ok-fault.fault c.loop-line.invariant c.in-Some.ensures.steps c.in_ok-fault.ensures c.in_ok-number-in-None.number c.in_ok-number-in-None.ensures c.in-None.is

pub returns-in-None-fault_at_end : goal.returns-in-None-fault_at_end
returns-in-None-fault_at_end c =
    end_fine (roster_seen c.args.reader.now.roster) c.args.first (lines_left c.args.lines) c.loop-line.number (lines_left c.loop-line.left) (state_of c.loop-line.reader) c.fault_at_end.result
    c.loop-line.invariant c.in_default.ensures.steps.0 c.fault_at_end.ensures c.in-None-fault_at_end.is

pub returns : goal.returns
returns c =
    end_fault (roster_seen c.args.reader.now.roster) c.args.first (lines_left c.args.lines) c.loop-line.number (lines_left c.loop-line.left) (state_of c.loop-line.reader) c.fault_at_end.result c.in-Some-fault_at_end.kind
    c.loop-line.invariant c.in_default.ensures.steps.0 c.fault_at_end.ensures c.in-Some-fault_at_end.is
