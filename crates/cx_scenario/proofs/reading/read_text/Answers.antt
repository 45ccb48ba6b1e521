use Rattle.std.proofs.Common.{subst, Option}
use Rattle.cx_text.specs.declared.fault.Fault.{Fault}
use Rattle.cx_text.specs.Views.{lines_left}
use Rattle.cx_scenario.specs.Views.{state_of}
use Rattle.cx_scenario.specs.Finished.{ReadsTo}
use Rattle.cx_scenario.proofs.Ending.{read_as, read_bad}
use Rattle.cx_scenario.proofs.reading.read_text.Goals as goal

pub returns-in-None : goal.returns-in-None
returns-in-None c =
    read_as c.args.limit c.args.text.now (lines_left c.of.result) c.read_lines.new.reader c.of.ensures
    (subst (λ (f : Option Fault). ReadsTo (lines_left c.of.result) f (state_of c.read_lines.new.reader)) c.in-None.is c.in_ok-fault.ensures)

pub returns : goal.returns
returns c =
    read_bad c.args.limit c.args.text.now (lines_left c.of.result) (state_of c.read_lines.new.reader) c.in-Some.fault c.of.ensures
    (subst (λ (f : Option Fault). ReadsTo (lines_left c.of.result) f (state_of c.read_lines.new.reader)) c.in-Some.is c.in_ok-fault.ensures)
