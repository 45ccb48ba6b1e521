use Rattle.std.proofs.Common.{◌≡◌, true, sym, ◌∙◌, arith}
use Rattle.cx_machine.specs.Words.{has}
use Rattle.cx_machine.specs.States.{stop_of}
use Rattle.cx_machine.specs.Callbacks.{once_ran}
use Rattle.cx_machine.proofs.Counts.{let_go_lens, some_len}
use Rattle.cx_machine.proofs.stop.StopState.let_go.Goals as goal

pub insert-requires : goal.insert-requires
insert-requires c =
    let s = c.args.self.now in
    let h : has s.ended.rising.items c.args.id ≡ true = sym c.has-allowed.ensures ∙ c.if-allowed.true in
    let l = some_len s.ended.rising c.args.id h in
    omega (arith, l, s.to_go)

pub invariant_of-self : goal.invariant_of-self
invariant_of-self c =
    let s = c.args.self.now in
    let h : has s.ended.rising.items c.args.id ≡ true = sym c.has-allowed.ensures ∙ c.if-allowed.true in
    let lens = let_go_lens s.ended.rising c.remove.new.self.rising s.gone.rising c.insert.new.self.rising s.registered.items s.running.items c.args.id s.once h c.remove.ensures.items c.insert.ensures.items in
    record {
      once = rw (c.remove.ensures.items, c.insert.ensures.items) (once_ran (stop_of s) c.args.id s.once h);
      indexed = s.indexed;
      index_len = s.index_len;
      to_register = omega (arith, lens.0, lens.1, s.to_register);
      to_index = omega (arith, lens.0, lens.1, s.to_index);
      to_run = omega (arith, lens.0, lens.1, s.to_run);
      to_end = omega (arith, lens.0, lens.1, c.remove.ensures.room, s.to_end);
      to_go = omega (arith, lens.0, lens.1, c.insert.ensures.room, s.to_go);
    }

pub returns-then-allowed-clause-room : goal.returns-then-allowed-clause-room
returns-then-allowed-clause-room c =
    let s = c.args.self.now in
    let h : has s.ended.rising.items c.args.id ≡ true = sym c.has-allowed.ensures ∙ c.if-allowed.true in
    let lens = let_go_lens s.ended.rising c.remove.new.self.rising s.gone.rising c.insert.new.self.rising s.registered.items s.running.items c.args.id s.once h c.remove.ensures.items c.insert.ensures.items in
    omega (arith, lens.0, lens.1)
