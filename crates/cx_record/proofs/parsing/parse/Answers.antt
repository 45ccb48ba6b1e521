use Rattle.std.proofs.Common.{subst}
use Rattle.std.specs.Prelude.{Result}
use Rattle.cx_text.specs.declared.fault.Fault.{Fault}
use Rattle.cx_history.specs.declared.record.Record.{Record}
use Rattle.cx_history.specs.Views.{recorded_of}
use Rattle.cx_record.specs.ReaderSeen.{MeansAs}
use Rattle.cx_record.proofs.Meant.{meant_is_record, meant_is_short}
use Rattle.cx_record.proofs.parsing.parse.Goals as goal

pub returns-in-Ok-found-clause-well_formed : goal.returns-in-Ok-found-clause-well_formed
returns-in-Ok-found-clause-well_formed c =
    meant_is_record c.args.scenario.now c.args.first_line c.args.room c.args.text.now (recorded_of c.in-Ok-found.record_of)
    (subst (λ (x : Result Record Fault). MeansAs c.args.scenario.now c.args.first_line c.args.room c.args.text.now x) c.in-Ok-found.is c.in-Ok.ensures)

pub returns-in-Ok-found-clause-short : goal.returns-in-Ok-found-clause-short
returns-in-Ok-found-clause-short c =
    meant_is_short c.args.scenario.now c.args.first_line c.args.room c.args.text.now (recorded_of c.in-Ok-found.record_of) c.requires.room
    (subst (λ (x : Result Record Fault). MeansAs c.args.scenario.now c.args.first_line c.args.room c.args.text.now x) c.in-Ok-found.is c.in-Ok.ensures)
