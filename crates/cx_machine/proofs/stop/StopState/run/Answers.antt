use Rattle.std.proofs.Common.{arith}
use Rattle.cx_machine.specs.States.{stop_of}
use Rattle.cx_machine.proofs.Counts.{once_run, run_is}
use Rattle.cx_machine.proofs.stop.StopState.run.Goals as goal

pub invariant_of-self : goal.invariant_of-self
invariant_of-self c =
    let s = c.args.self.now in
    let len = c.push_reserved.ensures.len in
    record {
      once = rw c.push_reserved.ensures.items (once_run (stop_of s) c.args.by.0 c.args.id s.once c.requires.fresh);
      indexed = s.indexed;
      index_len = s.index_len;
      to_register = omega (arith, len, s.to_register, c.requires.room);
      to_index = omega (arith, len, s.to_index, c.requires.room);
      to_run = omega (arith, len, c.push_reserved.ensures.capacity, s.to_run, c.requires.room);
      to_end = omega (arith, len, s.to_end, c.requires.room);
      to_go = omega (arith, len, s.to_go, c.requires.room);
    }

pub returns-clause-state : goal.returns-clause-state
returns-clause-state c = rw c.push_reserved.ensures.items (run_is (stop_of c.args.self.now) c.args.by.0 c.args.id c.requires.fresh)
