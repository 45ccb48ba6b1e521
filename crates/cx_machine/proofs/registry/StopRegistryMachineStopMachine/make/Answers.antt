use Rattle.std.proofs.Common.{◌+◌, ◌≤◌, length, arith}
use Rattle.std.specs.Prelude.{vec_capacity}
use Rattle.cx_machine.specs.Words.{small_of}
use Rattle.cx_machine.specs.States.{stop_of}
use Rattle.cx_machine.proofs.Counts.{length-members}
use Rattle.cx_machine.proofs.Moving.{may_move, same_after}
use Rattle.cx_machine.proofs.registry.StopRegistryMachineStopMachine.make.Goals as goal

pub move_value-requires : goal.move_value-requires
move_value-requires g c =
    let s = c.args.self.now in
    let e = c.args.e.now in
    let fits : length s.state.registered.items + s.state.room ≤ vec_capacity s.values = omega (arith, s.roomy, s.state.registered.ok.0) in
    may_move (stop_of s.state) e.by.0 s.values.items s.state.room (vec_capacity s.values) s.same s.state.once fits e.op (small_of e.a) e.b e.reply c.requires.enabled c.requires.room

pub invariant_of-self : goal.invariant_of-self
invariant_of-self g c =
    let s = c.args.self.now in
    let e = c.args.e.now in
    record {
      same = same_after (stop_of s.state) (stop_of c.make.new.self) e.by.0 e.op (small_of e.a) e.b e.reply s.values.items c.move_value.new.values.items c.args.hand.now c.move_value.new.hand s.same c.requires.hand c.move_value.ensures.moved c.make.ensures.state;
      roomy = omega (arith, s.roomy, c.make.ensures.room, c.move_value.ensures.room);
    }

pub returns-clause-room : goal.returns-clause-room
returns-clause-room g c =
    let s = c.args.self.now.state in
    let t = c.make.new.self in
    let a = length-members (stop_of s) in
    let b = length-members (stop_of t) in
    omega (arith, a, b, c.make.ensures.room, s.registered.ok.0, s.running.ok.0, s.ended.rising.ok.0, s.gone.rising.ok.0, t.registered.ok.0, t.running.ok.0, t.ended.rising.ok.0, t.gone.rising.ok.0)
