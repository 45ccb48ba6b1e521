use Rattle.std.proofs.Common.{◌≡◌, false, ◌∙◌, arith}
use Rattle.cx_machine.specs.States.{stop_of}
use Rattle.cx_machine.specs.Words.{has}
use Rattle.cx_machine.specs.Callbacks.{once_registered}
use Rattle.cx_machine.proofs.Counts.{fresh_unregistered, index_has, index_push, longer_by}
use Rattle.cx_machine.proofs.stop.StopState.put.Goals as goal

pub invariant_of-self : goal.invariant_of-self
invariant_of-self c =
    let s = c.args.self.now in
    let len = c.push_reserved.ensures.len in
    let lacks : has s.index.rising.items c.args.id ≡ false = index_has s.index.rising.items s.registered.items c.args.id s.indexed ∙ fresh_unregistered (stop_of s) c.args.by.0 c.args.id c.requires.fresh in
    let longer = longer_by s.index.rising c.insert.new.self.rising c.args.id lacks c.insert.ensures.items in
    record {
      once = rw c.push_reserved.ensures.items (once_registered (stop_of s) c.args.by.0 c.args.id s.once c.requires.fresh);
      indexed = rw (c.push_reserved.ensures.items, c.insert.ensures.items) (index_push s.index.rising.items s.registered.items c.args.id s.indexed lacks);
      index_len = omega (arith, longer, len, s.index_len);
      to_register = omega (arith, len, c.push_reserved.ensures.capacity, s.to_register, c.requires.room);
      to_index = omega (arith, len, c.insert.ensures.room, s.to_index, c.requires.room);
      to_run = omega (arith, len, s.to_run, c.requires.room);
      to_end = omega (arith, len, s.to_end, c.requires.room);
      to_go = omega (arith, len, s.to_go, c.requires.room);
    }
