use Rattle.std.proofs.Common.{sym}
use Rattle.cx_history.specs.Views.{recorded_of}
use Rattle.cx_commands.proofs.Found.{flawless}
use Rattle.cx_commands.proofs.checking.check_record.Goals as goal

pub returns-in-Legal : goal.returns-in-Legal
returns-in-Legal c = flawless c.args.scenario.now (recorded_of c.args.record.now) c.requires.well_formed (sym (rw c.in-Legal.is at c.in_ok-check.ensures))
