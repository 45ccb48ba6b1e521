use Rattle.std.proofs.Common.{rules, ◌*◌, true}
use Rattle.cx_machine.specs.Mutex.{opening}
use Rattle.cx_turn.specs.Views.{opening_view}
use Rattle.cx_kinds.proofs.recursive.recursive.Goals as goal

pub returns-clause-new : goal.returns-clause-new
returns-clause-new c = record { seen = c.in_ok-seat.ensures.seen (opening_view (opening true 0) c.args.threads (131072 * c.args.threads) 0) (record { pass = search rules; own = search rules; levels = search rules; few = search rules }) }
