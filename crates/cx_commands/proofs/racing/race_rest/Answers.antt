use Rattle.std.proofs.Common.{suc, ◌≤◌, arith, rules}
use Rattle.cx_history.specs.Views.{recorded_of}
use Rattle.cx_record.proofs.Checkings.{next_short}
use Rattle.cx_commands.specs.Racing.{races_limit}
use Rattle.cx_commands.proofs.Raced.{behind_part, found_so, bad_record}
use Rattle.cx_commands.proofs.racing.race_rest.Goals as goal

pub parse_part-requires-clause-first : goal.parse_part-requires-clause-first
parse_part-requires-clause-first c = let short : c.args.next ≤ suc (suc (suc 16777216)) = next_short races_limit c.args.text.now c.args.scenario.now c.args.len c.args.next c.requires.front in omega arith

pub returns-in-Ok : goal.returns-in-Ok
returns-in-Ok c =
    found_so c.race_accesses.result c.args.text.now c.args.scenario.now (recorded_of c.in-Ok.recorded) c.in-Ok.after c.saturating_sub-left.result c.behind.result.now
    (behind_part c.args.text.now c.behind-rest.result.now c.behind.result.now c.args.scenario.now (recorded_of c.in-Ok.recorded) c.args.len c.args.next c.saturating_sub-room.result c.in-Ok.used c.in-Ok.after c.saturating_sub-left.result
    c.requires.front c.behind-rest.ensures c.saturating_sub-room.ensures c.in-Ok.ensures.found c.behind.ensures c.saturating_sub-left.ensures)
    c.race_accesses.ensures

pub returns-in_ok-line-in-Err-Bad : goal.returns-in_ok-line-in-Err-Bad
returns-in_ok-line-in-Err-Bad c =
    bad_record c.args.text.now c.behind-rest.result.now c.in_ok-line-in-Err-Bad.line.items c.args.scenario.now c.args.len c.args.next c.saturating_sub-room.result c.in_ok-line-in-Err-Bad.ensures
    c.requires.front c.behind-rest.ensures c.saturating_sub-room.ensures (search rules)
