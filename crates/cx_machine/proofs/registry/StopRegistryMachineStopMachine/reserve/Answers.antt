use Rattle.std.proofs.Common.{◌≡◌, ◌+◌, ◌≤◌, ◌<◌, ℕ, List, length, ap, sym, ◌∙◌, arith}
use Rattle.std.specs.Prelude.{vec_len, vec_capacity}
use Rattle.cx_machine.specs.Stop.{Stop}
use Rattle.cx_machine.specs.States.{stop_total}
use Rattle.cx_machine.specs.Values.{ids_of}
use Rattle.cx_machine.proofs.Moving.{length-ids_of, grown_fits}
use Rattle.cx_machine.proofs.registry.StopRegistryMachineStopMachine.reserve.Goals as goal

pub invariant_of-self-then-room-n : goal.invariant_of-self-then-room-n
invariant_of-self-then-room-n g c =
    let s = c.args.self.now in
    let new = c.make_room.new.self in
    let lt : s.state.room < c.args.n = rw c.room.ensures at c.if-room-n.true in
    let a = length-ids_of s.values.items in
    let b = ap (λ (ns : List ℕ). length ns) s.same in
    let lens : vec_len s.values ≡ vec_len s.state.registered = omega (arith, a, b, s.values.ok.0, s.state.registered.ok.0) in
    let fits : stop_total s.state + c.args.n ≤ vec_capacity c.reserve.new.self + s.state.room = omega (arith, lens, c.in_ok-reserve.ensures.ok, c.unregistered.ensures.sum, c.reserve.ensures.len) in
    record {
      same = ap (λ cs. ids_of cs) c.reserve.ensures.items ∙ (s.same ∙ sym (ap (λ (t : Stop). t.registered) c.make_room.ensures.state));
      roomy = grown_fits c.make_room.result c.args.n s.state.room new.room (stop_total s.state) (stop_total new) (vec_capacity c.reserve.new.self) lt fits c.make_room.ensures.refused c.make_room.ensures.grown c.make_room.ensures.total;
    }
