use Rattle.std.proofs.Common.{rules}
use Rattle.cx_commands.proofs.Raced.{bad_scenario}
use Rattle.cx_commands.proofs.racing.race_text.Goals as goal

pub returns-in_ok-line-in-Err-Bad : goal.returns-in_ok-line-in-Err-Bad
returns-in_ok-line-in-Err-Bad c = bad_scenario c.args.bytes.now c.in_ok-line-in-Err-Bad.line.items c.in-Err-Bad.fault (search rules) c.in_ok-line-in-Err-Bad.ensures
