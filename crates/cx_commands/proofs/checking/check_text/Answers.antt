use Rattle.std.proofs.Common.{suc, ◌≤◌, arith, rules}
use Rattle.cx_record.proofs.Checkings.{next_short}
use Rattle.cx_commands.proofs.Found.{found_rest, bad_text}
use Rattle.cx_commands.proofs.checking.check_text.Goals as goal

pub check_rest-requires-clause-first : goal.check_rest-requires-clause-first
check_rest-requires-clause-first c = let short : c.in-Ok.next ≤ suc (suc (suc 1073741824)) = next_short 1073741824 c.args.bytes.now c.in-Ok.scenario c.in-Ok.len c.in-Ok.next c.in-Ok.ensures.found in omega arith

pub returns-in-Ok : goal.returns-in-Ok
returns-in-Ok c =
    found_rest c.check_rest.result c.args.bytes.now c.behind-rest.result.now c.in-Ok.scenario c.in-Ok.len c.in-Ok.next c.saturating_sub-room.result c.in-Ok.ensures.found c.behind-rest.ensures c.saturating_sub-room.ensures
    c.check_rest.ensures

pub returns-in_ok-line-in-Err-Bad : goal.returns-in_ok-line-in-Err-Bad
returns-in_ok-line-in-Err-Bad c = bad_text c.args.bytes.now c.in_ok-line-in-Err-Bad.line.items c.in-Err-Bad.fault (search rules) c.in_ok-line-in-Err-Bad.ensures
