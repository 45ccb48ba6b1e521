use Rattle.std.proofs.Common.{refl, sym, ◌∙◌, arith}
use Rattle.cx_machine.specs.States.{stop_of}
use Rattle.cx_machine.proofs.Counts.{room_to_run}
use Rattle.cx_machine.proofs.stop.StopState.register_now.Goals as goal

pub returns-in_err-make_room-clause-room : goal.returns-in_err-make_room-clause-room
returns-in_err-make_room-clause-room c h =
    let r = room_to_run (stop_of c.args.self.now) c.args.by.0 c.args.id c.args.self.now.room (sym c.can_register_now-allowed.ensures ∙ c.if-allowed.true) h in
    let t = c.in_err-make_room.ensures.there (omega (arith, r)) in
    cc t.0

pub returns-in_ok-make_room-clause-room : goal.returns-in_ok-make_room-clause-room
returns-in_ok-make_room-clause-room c h =
    let r = room_to_run (stop_of c.args.self.now) c.args.by.0 c.args.id c.args.self.now.room (sym c.can_register_now-allowed.ensures ∙ c.if-allowed.true) h in
    let t = c.in_ok-make_room.ensures.there (omega (arith, r)) in
    (refl, c.run.ensures.room ∙ t.1)
