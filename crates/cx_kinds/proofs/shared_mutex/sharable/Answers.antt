use Rattle.std.proofs.Common.{rules, ◌*◌}
use Rattle.cx_machine.specs.Shared.{opening}
use Rattle.cx_turn.specs.Views.{opening_view}
use Rattle.cx_kinds.proofs.shared_mutex.sharable.Goals as goal

pub returns-clause-new : goal.returns-clause-new
returns-clause-new c = record { seen = c.in_ok-seat.ensures.seen (opening_view opening c.args.threads (131072 * c.args.threads) 0) (record { pass = search rules; owned = search rules }) }
