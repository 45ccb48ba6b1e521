use Rattle.std.proofs.Common.{sym}
use Rattle.cx_history.specs.Views.{recorded_of}
use Rattle.cx_commands.proofs.Found.{flawless}
use Rattle.cx_commands.proofs.Raced.{judged_so}
use Rattle.cx_commands.proofs.racing.judge.Goals as goal

pub report_on-requires-clause-flawless : goal.report_on-requires-clause-flawless
report_on-requires-clause-flawless c = flawless c.args.scenario.now (recorded_of c.args.recorded.now) c.requires.well_formed (sym (rw c.in-Legal.is at c.in_ok-check.ensures))

pub returns-in-Legal : goal.returns-in-Legal
returns-in-Legal c =
    judged_so c.report_on.result c.args.scenario.now (recorded_of c.args.recorded.now) c.args.accesses.now.accesses.items c.args.accesses.now.names
    (flawless c.args.scenario.now (recorded_of c.args.recorded.now) c.requires.well_formed (sym (rw c.in-Legal.is at c.in_ok-check.ensures))) c.report_on.ensures
