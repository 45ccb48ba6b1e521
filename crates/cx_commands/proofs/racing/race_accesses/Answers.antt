use Rattle.cx_history.specs.Views.{recorded_of}
use Rattle.cx_commands.proofs.Raced.{meant_so}
use Rattle.cx_commands.proofs.racing.race_accesses.Goals as goal

pub returns-in-Ok : goal.returns-in-Ok
returns-in-Ok c =
    meant_so c.judge.result c.args.scenario.now (recorded_of c.args.recorded.now) c.args.first_line c.args.room c.args.rest.now c.in-Ok.accesses.accesses.items c.in-Ok.accesses.names c.in-Ok.ensures.found c.judge.ensures
