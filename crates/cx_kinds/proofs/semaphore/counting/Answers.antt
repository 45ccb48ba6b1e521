use Rattle.std.proofs.Common.{rules, ◌*◌}
use Rattle.cx_machine.specs.Semaphore.{opening}
use Rattle.cx_turn.specs.Views.{opening_view}
use Rattle.cx_kinds.proofs.semaphore.counting.Goals as goal

pub returns : goal.returns
returns c = record { seen = c.in_ok-seat.ensures.seen (opening_view (opening c.args.count c.args.max) c.args.threads (131072 * c.args.threads) 0) (search rules) }
