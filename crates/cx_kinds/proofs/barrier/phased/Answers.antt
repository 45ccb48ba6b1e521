use Rattle.std.proofs.Common.{rules, ◌*◌, refl}
use Rattle.cx_machine.specs.Barrier.{opening}
use Rattle.cx_turn.specs.Views.{opening_view}
use Rattle.cx_kinds.proofs.Owing.{never_owing}
use Rattle.cx_kinds.proofs.barrier.phased.Goals as goal

pub returns : goal.returns
returns c =
    let v = opening_view (opening c.args.count) c.args.threads (131072 * c.args.threads) 0 in
    record { seen = c.in_ok-seat.ensures.seen v (record { pass = search rules; own = tt; owing = never_owing v refl refl; opened = refl }) }
