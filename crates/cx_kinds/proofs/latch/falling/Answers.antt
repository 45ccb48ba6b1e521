use Rattle.std.proofs.Common.{rules, ◌*◌}
use Rattle.cx_machine.specs.Latch.{opening}
use Rattle.cx_turn.specs.Views.{opening_view}
use Rattle.cx_kinds.proofs.latch.falling.Goals as goal

pub returns : goal.returns
returns c = record { seen = c.in_ok-seat.ensures.seen (opening_view (opening c.args.count) c.args.threads (131072 * c.args.threads) c.args.count) (search rules) }
