use Rattle.std.proofs.Common.{rules, ◌*◌, false}
use Rattle.cx_machine.specs.Mutex.{opening}
use Rattle.cx_turn.specs.Views.{opening_view}
use Rattle.cx_kinds.proofs.mutex.plain.Goals as goal

pub returns-clause-new : goal.returns-clause-new
returns-clause-new c = record { seen = c.in_ok-seat.ensures.seen (opening_view (opening false c.args.numbers) c.args.threads (131072 * c.args.threads) 0) (record { pass = search rules; hold = search rules }) }
