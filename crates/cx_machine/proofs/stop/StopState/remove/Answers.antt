use Rattle.std.proofs.Common.{◌≡◌, true, sym, ◌∙◌, arith}
use Rattle.cx_machine.specs.Words.{has}
use Rattle.cx_machine.specs.States.{stop_of}
use Rattle.cx_machine.specs.Callbacks.{once_removed}
use Rattle.cx_machine.proofs.Counts.{index_len_out, index_out, remove_lens, some_len}
use Rattle.cx_machine.proofs.stop.StopState.remove.Goals as goal

pub insert-requires : goal.insert-requires
insert-requires c =
    let s = c.args.self.now in
    let h : has s.registered.items c.args.id ≡ true = sym c.is_registered-allowed.ensures ∙ c.if-allowed.true in
    let l = some_len s.registered c.args.id h in
    omega (arith, l, s.to_go)

pub invariant_of-self : goal.invariant_of-self
invariant_of-self c =
    let s = c.args.self.now in
    let h : has s.registered.items c.args.id ≡ true = sym c.is_registered-allowed.ensures ∙ c.if-allowed.true in
    let lens = remove_lens s.registered c.remove_from.new.ns s.ended.rising s.gone.rising c.insert.new.self.rising s.running.items c.args.id s.once h c.remove_from.ensures.left c.insert.ensures.items in
    let index_less = index_len_out s.index.rising c.remove.new.self.rising s.registered.items s.running.items s.ended.rising.items s.gone.rising.items c.args.id s.indexed s.once h c.remove.ensures.items in
    record {
      once = rw (c.remove_from.ensures.left, c.insert.ensures.items) (once_removed (stop_of s) c.args.id s.once h);
      indexed = rw (c.remove_from.ensures.left, c.remove.ensures.items) (index_out s.index.rising.items s.registered.items c.args.id s.indexed);
      index_len = omega (arith, lens.0, index_less, s.index_len);
      to_register = omega (arith, lens.0, lens.1, c.remove_from.ensures.room, s.to_register);
      to_index = omega (arith, lens.0, lens.1, c.remove.ensures.room, s.to_index);
      to_run = omega (arith, lens.0, lens.1, s.to_run);
      to_end = omega (arith, lens.0, lens.1, s.to_end);
      to_go = omega (arith, lens.0, lens.1, c.insert.ensures.room, s.to_go);
    }

pub returns-then-allowed-clause-room : goal.returns-then-allowed-clause-room
returns-then-allowed-clause-room c =
    let s = c.args.self.now in
    let h : has s.registered.items c.args.id ≡ true = sym c.is_registered-allowed.ensures ∙ c.if-allowed.true in
    let lens = remove_lens s.registered c.remove_from.new.ns s.ended.rising s.gone.rising c.insert.new.self.rising s.running.items c.args.id s.once h c.remove_from.ensures.left c.insert.ensures.items in
    omega (arith, lens.0, lens.1)
