use Rattle.std.proofs.Common.{◌≡◌, ◌+◌, true, sym, ◌∙◌, arith}
use Rattle.std.proofs.lemmas.Bool.{and_parts}
use Rattle.std.specs.Prelude.{vec_len}
use Rattle.cx_machine.specs.Words.{has, is_thread}
use Rattle.cx_machine.specs.States.{stop_of}
use Rattle.cx_machine.specs.Callbacks.{once_began}
use Rattle.cx_machine.proofs.Counts.{begin_len, index_len_out, index_out, some_len}
use Rattle.cx_machine.proofs.stop.StopState.begin.Goals as goal

pub push_reserved-requires : goal.push_reserved-requires
push_reserved-requires c =
    let s = c.args.self.now in
    let h : has s.registered.items c.args.id ≡ true = (and_parts (is_thread (stop_of s).requester c.args.by.0) (has s.registered.items c.args.id) (sym c.can_begin-allowed.ensures ∙ c.if-allowed.true)).1 in
    let l = some_len s.registered c.args.id h in
    omega (arith, l, s.to_run)

pub invariant_of-self : goal.invariant_of-self
invariant_of-self c =
    let s = c.args.self.now in
    let h : has s.registered.items c.args.id ≡ true = (and_parts (is_thread (stop_of s).requester c.args.by.0) (has s.registered.items c.args.id) (sym c.can_begin-allowed.ensures ∙ c.if-allowed.true)).1 in
    let less : vec_len c.remove_from.new.ns + 1 ≡ vec_len s.registered = begin_len s.registered c.remove_from.new.ns s.running.items s.ended.rising.items s.gone.rising.items c.args.id s.once h c.remove_from.ensures.left in
    let more = c.push_reserved.ensures.len in
    let index_less = index_len_out s.index.rising c.remove.new.self.rising s.registered.items s.running.items s.ended.rising.items s.gone.rising.items c.args.id s.indexed s.once h c.remove.ensures.items in
    record {
      once = rw (c.remove_from.ensures.left, c.push_reserved.ensures.items) (once_began (stop_of s) c.args.by.0 c.args.id s.once h);
      indexed = rw (c.remove_from.ensures.left, c.remove.ensures.items) (index_out s.index.rising.items s.registered.items c.args.id s.indexed);
      index_len = omega (arith, less, index_less, s.index_len);
      to_register = omega (arith, less, more, c.remove_from.ensures.room, s.to_register);
      to_index = omega (arith, less, more, c.remove.ensures.room, s.to_index);
      to_run = omega (arith, less, more, c.push_reserved.ensures.capacity, s.to_run);
      to_end = omega (arith, less, more, s.to_end);
      to_go = omega (arith, less, more, s.to_go);
    }

pub returns-then-allowed-clause-room : goal.returns-then-allowed-clause-room
returns-then-allowed-clause-room c =
    let s = c.args.self.now in
    let h : has s.registered.items c.args.id ≡ true = (and_parts (is_thread (stop_of s).requester c.args.by.0) (has s.registered.items c.args.id) (sym c.can_begin-allowed.ensures ∙ c.if-allowed.true)).1 in
    let less : vec_len c.remove_from.new.ns + 1 ≡ vec_len s.registered = begin_len s.registered c.remove_from.new.ns s.running.items s.ended.rising.items s.gone.rising.items c.args.id s.once h c.remove_from.ensures.left in
    omega (arith, less, c.push_reserved.ensures.len)
