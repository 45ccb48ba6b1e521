use Rattle.std.proofs.Common.{◌≡◌, Option, Bor, map, ap, sym, ◌∙◌, subst}
use Rattle.cx_text.specs.declared.fault.Fault.{Fault}
use Rattle.cx_text.specs.Lines.{Line}
use Rattle.cx_text.specs.Views.{lines_left}
use Rattle.cx_history.specs.declared.record.Record.{Record}
use Rattle.cx_history.specs.Histories.{Recorded}
use Rattle.cx_history.specs.Views.{recorded_of}
use Rattle.cx_script.specs.Script.{names_in}
use Rattle.cx_races.specs.Races.{AreAccesses}
use Rattle.cx_accesses.specs.AccessLines.{read_line}
use Rattle.cx_accesses.specs.AccessesMeant.{reads_of}
use Rattle.cx_accesses.specs.AccessesSeen.{names_seen, state_of, ReadsTo}
use Rattle.cx_accesses.proofs.AccessesRead.{read_as, meant_of}
use Rattle.cx_accesses.proofs.parsing.parse_text.Goals as goal

pub returns-in-None-clause-means : goal.returns-in-None-clause-means
returns-in-None-clause-means c =
    let o = names_in c.args.scenario.now in
    let r = recorded_of c.args.recorded.now in
    let reads_to = read_as (names_seen c.new-reader.result.declared) o (recorded_of c.new-reader.result.recorded.now) r c.args.first (map read_line (lines_left c.of-2.result)) (reads_of c.args.room c.args.text.now) c.in_ok-fault.fault (state_of c.read_lines.new.reader)
    (ap names_seen c.new-reader.ensures.declared ∙ c.in_ok-names.ensures) (ap (λ (x : Bor Record). recorded_of x.now) c.new-reader.ensures.recorded) (ap (map read_line) c.of-2.ensures) c.in_ok-fault.ensures.reads in
    meant_of o r c.args.first (reads_of c.args.room c.args.text.now) (state_of c.read_lines.new.reader)
    (subst (λ (f : Option Fault). ReadsTo o r c.args.first (reads_of c.args.room c.args.text.now) f (state_of c.read_lines.new.reader)) c.in-None.is reads_to)

pub returns-in-None-clause-points : goal.returns-in-None-clause-points
returns-in-None-clause-points c =
    subst (λ (x : Recorded). AreAccesses x c.read_lines.new.reader.accesses.items) (ap (λ (x : Bor Record). recorded_of x.now) c.new-reader.ensures.recorded) (c.in_ok-fault.ensures.points c.in-None.is)

pub returns-in-Some-clause-means : goal.returns-in-Some-clause-means
returns-in-Some-clause-means c =
    let o = names_in c.args.scenario.now in
    let r = recorded_of c.args.recorded.now in
    let reads_to = read_as (names_seen c.new-reader.result.declared) o (recorded_of c.new-reader.result.recorded.now) r c.args.first (map read_line (lines_left c.of-2.result)) (reads_of c.args.room c.args.text.now) c.in_ok-fault.fault (state_of c.read_lines.new.reader)
    (ap names_seen c.new-reader.ensures.declared ∙ c.in_ok-names.ensures) (ap (λ (x : Bor Record). recorded_of x.now) c.new-reader.ensures.recorded) (ap (map read_line) c.of-2.ensures) c.in_ok-fault.ensures.reads in
    subst (λ (f : Option Fault). ReadsTo o r c.args.first (reads_of c.args.room c.args.text.now) f (state_of c.read_lines.new.reader)) c.in-Some.is reads_to
