use Rattle.std.proofs.Common.{refl, sym, ◌∙◌, arith}
use Rattle.cx_machine.specs.States.{condition_of}
use Rattle.cx_machine.specs.Waiters.{room_to_enter}
use Rattle.cx_machine.proofs.condition.ConditionState.enter.Goals as goal

pub returns-in_err-make_room-clause-room : goal.returns-in_err-make_room-clause-room
returns-in_err-make_room-clause-room c h =
    let r = room_to_enter (condition_of c.args.self.now) c.args.by.0 c.args.self.now.room (sym c.is_away-allowed.ensures ∙ c.if-allowed.true) h in
    let t = c.in_err-make_room.ensures.there (omega (arith, r)) in
    cc t.0

pub returns-in_ok-make_room-clause-room : goal.returns-in_ok-make_room-clause-room
returns-in_ok-make_room-clause-room c h =
    let r = room_to_enter (condition_of c.args.self.now) c.args.by.0 c.args.self.now.room (sym c.is_away-allowed.ensures ∙ c.if-allowed.true) h in
    let t = c.in_ok-make_room.ensures.there (omega (arith, r)) in
    (refl, c.put.ensures.room ∙ t.1)
