use Rattle.std.proofs.Common.{ℕ, Bor, List, [], refl, sym, subst, ◌∙◌, ap}
use Rattle.cx_text.specs.Views.{lines_left, line_seen}
use Rattle.cx_history.specs.declared.record.Record.{Record}
use Rattle.cx_history.specs.Views.{recorded_of}
use Rattle.cx_races.specs.declared.access.Access.{Access}
use Rattle.cx_accesses.specs.declared.names.Names.{Names as NamesOf}
use Rattle.cx_races.specs.Races.{AreAccesses}
use Rattle.cx_accesses.specs.AccessLines.{State, opening, read_line}
use Rattle.cx_accesses.specs.AccessSteps.{fault_in, GoesBy}
use Rattle.cx_accesses.specs.AccessesSeen.{names_seen, state_of}
use Rattle.cx_accesses.proofs.AccessesRead.{IsGoing, going_start, line_fault, line_taken, end_fine, end_fault, goes_same}
use Rattle.cx_accesses.proofs.AccessPoints.{points_kept, none_at_first}
use Rattle.cx_accesses.proofs.parsing.read_lines.Goals as goal

pub loop-line-init : goal.loop-line-init
loop-line-init c =
    let o = names_seen c.args.reader.now.declared in
    let r = recorded_of c.args.reader.now.recorded.now in
    let all = lines_left c.args.lines in
    record {
      going = subst (λ (n : ℕ). IsGoing o r c.args.first all n all (state_of c.args.reader.now)) (sym c.from-number.ensures) (subst (λ (s : State). IsGoing o r c.args.first all c.args.first all s) (sym c.requires) (going_start o r c.args.first all));
      points = subst (λ (as_ : List Access). AreAccesses r as_) (sym (ap (λ (s : State). s.accesses) c.requires)) (none_at_first r);
      declared = refl;
      recorded = refl;
    }

pub returns-in-Some-fault-clause-reads : goal.returns-in-Some-fault-clause-reads
returns-in-Some-fault-clause-reads c =
    let goes = goes_same (names_seen c.loop-line.reader.declared) (names_seen c.args.reader.now.declared) (recorded_of c.loop-line.reader.recorded.now) (recorded_of c.args.reader.now.recorded.now) (state_of c.loop-line.reader) (state_of c.take_line.new.self) (line_seen c.in-Some.line) c.in_ok-fault.fault
    (ap names_seen c.loop-line.invariant.declared) (ap (λ (x : Bor Record). recorded_of x.now) c.loop-line.invariant.recorded) c.in_ok-fault.ensures.goes in
    line_fault (names_seen c.args.reader.now.declared) (recorded_of c.args.reader.now.recorded.now) c.args.first (lines_left c.args.lines) c.loop-line.number (lines_left c.loop-line.left) (lines_left c.next.new.self) (line_seen c.in-Some.line) (state_of c.loop-line.reader) (state_of c.take_line.new.self) c.in_ok-fault.fault
    c.loop-line.invariant.going c.in-Some.ensures.steps goes c.in-Some-fault.kind c.in-Some-fault.is

pub loop-line-preserved : goal.loop-line-preserved
loop-line-preserved c =
    let goes = goes_same (names_seen c.loop-line.reader.declared) (names_seen c.args.reader.now.declared) (recorded_of c.loop-line.reader.recorded.now) (recorded_of c.args.reader.now.recorded.now) (state_of c.loop-line.reader) (state_of c.take_line.new.self) (line_seen c.in-Some.line) c.in_ok-fault.fault
    (ap names_seen c.loop-line.invariant.declared) (ap (λ (x : Bor Record). recorded_of x.now) c.loop-line.invariant.recorded) c.in_ok-fault.ensures.goes in
    record {
      going = line_taken (names_seen c.args.reader.now.declared) (recorded_of c.args.reader.now.recorded.now) c.args.first (lines_left c.args.lines) c.loop-line.number (lines_left c.loop-line.left) (lines_left c.next.new.self) (line_seen c.in-Some.line) (state_of c.loop-line.reader) (state_of c.take_line.new.self) c.in_ok-fault.fault
          c.loop-line.invariant.going c.in-Some.ensures.steps goes c.in_ok-number-in-None.number c.in_ok-number-in-None.ensures c.in-None.is;
      points = points_kept (names_seen c.args.reader.now.declared) (recorded_of c.args.reader.now.recorded.now) (state_of c.loop-line.reader) (state_of c.take_line.new.self) (line_seen c.in-Some.line) c.in_ok-fault.fault goes c.in-None.is c.loop-line.invariant.points;
      declared = c.in_ok-fault.ensures.same.0 ∙ c.loop-line.invariant.declared;
      recorded = c.in_ok-fault.ensures.same.1 ∙ c.loop-line.invariant.recorded;
    }

pub returns-in-None-fault_at_end-clause-reads : goal.returns-in-None-fault_at_end-clause-reads
returns-in-None-fault_at_end-clause-reads c =
    end_fine (names_seen c.args.reader.now.declared) (recorded_of c.args.reader.now.recorded.now) c.args.first (lines_left c.args.lines) c.loop-line.number (lines_left c.loop-line.left) (state_of c.loop-line.reader) c.fault_at_end.result
    c.loop-line.invariant.going c.in_default.ensures.steps.0 c.fault_at_end.ensures c.in-None-fault_at_end.is

pub returns-clause-reads : goal.returns-clause-reads
returns-clause-reads c =
    end_fault (names_seen c.args.reader.now.declared) (recorded_of c.args.reader.now.recorded.now) c.args.first (lines_left c.args.lines) c.loop-line.number (lines_left c.loop-line.left) (state_of c.loop-line.reader) c.fault_at_end.result
    c.loop-line.invariant.going c.in_default.ensures.steps.0 c.fault_at_end.ensures c.in-Some-fault_at_end.kind c.in-Some-fault_at_end.is
