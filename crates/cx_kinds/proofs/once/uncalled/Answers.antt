use Rattle.std.proofs.Common.{rules, ◌*◌, refl}
use Rattle.cx_machine.specs.Once.{Idle}
use Rattle.cx_turn.specs.Views.{opening_view}
use Rattle.cx_kinds.proofs.Executing.{never_running}
use Rattle.cx_kinds.proofs.once.uncalled.Goals as goal

pub returns : goal.returns
returns c =
    let v = opening_view Idle c.args.threads (131072 * c.args.threads) 0 in
    record { seen = c.in_ok-seat.ensures.seen v (record { pass = search rules; own = tt; running = never_running v refl refl; opened = refl }) }
