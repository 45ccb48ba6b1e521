use Rattle.std.proofs.Common.{◌≡◌, true, sym, ◌∙◌, arith}
use Rattle.cx_machine.specs.Stop.{runs}
use Rattle.cx_machine.specs.States.{stop_of}
use Rattle.cx_machine.specs.Callbacks.{once_finished}
use Rattle.cx_machine.proofs.Counts.{finish_lens, some_runs}
use Rattle.cx_machine.proofs.stop.StopState.finish.Goals as goal

pub insert-requires : goal.insert-requires
insert-requires c =
    let s = c.args.self.now in
    let h : runs s.running.items c.args.by.0 c.args.id ≡ true = rw c.deref.ensures.value at (sym c.runs-allowed.ensures ∙ c.if-allowed.true) in
    let l = some_runs s.running c.args.by.0 c.args.id h in
    omega (arith, l, s.to_end)

pub invariant_of-self : goal.invariant_of-self
invariant_of-self c =
    let s = c.args.self.now in
    let h : runs s.running.items c.args.by.0 c.args.id ≡ true = rw c.deref.ensures.value at (sym c.runs-allowed.ensures ∙ c.if-allowed.true) in
    let lens = finish_lens s.running c.remove_running.new.running s.ended.rising c.insert.new.self.rising s.gone.rising s.registered.items c.args.by.0 c.args.id s.once h c.remove_running.ensures.left c.insert.ensures.items in
    record {
      once = rw (c.remove_running.ensures.left, c.insert.ensures.items) (once_finished (stop_of s) c.args.by.0 c.args.id s.once h);
      indexed = s.indexed;
      index_len = s.index_len;
      to_register = omega (arith, lens.0, lens.1, s.to_register);
      to_index = omega (arith, lens.0, lens.1, s.to_index);
      to_run = omega (arith, lens.0, lens.1, c.remove_running.ensures.room, s.to_run);
      to_end = omega (arith, lens.0, lens.1, c.insert.ensures.room, s.to_end);
      to_go = omega (arith, lens.0, lens.1, s.to_go);
    }

pub returns-then-allowed-clause-room : goal.returns-then-allowed-clause-room
returns-then-allowed-clause-room c =
    let s = c.args.self.now in
    let h : runs s.running.items c.args.by.0 c.args.id ≡ true = rw c.deref.ensures.value at (sym c.runs-allowed.ensures ∙ c.if-allowed.true) in
    let lens = finish_lens s.running c.remove_running.new.running s.ended.rising c.insert.new.self.rising s.gone.rising s.registered.items c.args.by.0 c.args.id s.once h c.remove_running.ensures.left c.insert.ensures.items in
    omega (arith, lens.0, lens.1)
