use Rattle.std.proofs.Common.{Option, ap, ◌∙◌, subst}
use Rattle.cx_text.specs.declared.fault.Fault.{Fault}
use Rattle.cx_text.specs.Views.{lines_left}
use Rattle.cx_record.specs.RecordSteps.{State, ReadsTo}
use Rattle.cx_record.specs.RosterSeen.{roster_seen}
use Rattle.cx_record.specs.ReaderSeen.{state_of}
use Rattle.cx_record.proofs.GoingOn.{meaning_ok, meaning_bad}
use Rattle.cx_record.proofs.parsing.parse_text.Goals as goal

pub returns-in-None : goal.returns-in-None
returns-in-None c =
    meaning_ok c.args.scenario.now c.args.first c.args.room c.args.text.now (lines_left c.of-2.result) (roster_seen c.new-reader.result.roster) (state_of c.read_lines.new.reader) c.of-2.ensures
    (ap (λ (s : State). s.roster) c.new-reader.ensures ∙ c.in_ok-roster.ensures)
    (subst (λ (f : Option Fault). ReadsTo (roster_seen c.new-reader.result.roster) c.args.first (lines_left c.of-2.result) f (state_of c.read_lines.new.reader)) c.in-None.is c.in_ok-fault.ensures)

pub returns-in-Some : goal.returns-in-Some
returns-in-Some c =
    meaning_bad c.args.scenario.now c.args.first c.args.room c.args.text.now (lines_left c.of-2.result) (roster_seen c.new-reader.result.roster) (state_of c.read_lines.new.reader) c.in-Some.fault c.of-2.ensures
    (ap (λ (s : State). s.roster) c.new-reader.ensures ∙ c.in_ok-roster.ensures)
    (subst (λ (f : Option Fault). ReadsTo (roster_seen c.new-reader.result.roster) c.args.first (lines_left c.of-2.result) f (state_of c.read_lines.new.reader)) c.in-Some.is c.in_ok-fault.ensures)
