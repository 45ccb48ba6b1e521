use Rattle.std.specs.Prelude.{vec_len, vec_capacity}
use Rattle.cx_machine.specs.States.{shared_of}
use Rattle.cx_machine.specs.Distinct.{once_pushed, once_taken}
use Rattle.std.specs.Prelude.{true}
use Rattle.cx_machine.specs.Readers.{lacking, joins, room_for}
use Rattle.cx_machine.proofs.shared.SharedStateMachineSharedMachine.make.Goals as goal

pub push_reserved-requires : goal.push_reserved-requires
push_reserved-requires c = room_for (shared_of c.args.self.now) c.args.e.now (vec_len c.args.self.now.readers) (vec_capacity c.args.self.now.readers) c.in-LockShared.is c.requires.enabled c.requires.room

pub invariant_of-self : goal.invariant_of-self
invariant_of-self c = record { once = once_pushed true c.args.self.now.readers.items _ c.args.e.now.by.0 c.args.self.now.once (lacking (shared_of c.args.self.now) c.args.e.now.by.0 (joins (shared_of c.args.self.now) c.args.e.now c.in-LockShared.is c.requires.enabled).0) c.push_reserved.ensures.items }

pub invariant_of-self-in-UnlockShared : goal.invariant_of-self-in-UnlockShared
invariant_of-self-in-UnlockShared c = record { once = once_taken c.args.self.now.readers.items _ c.args.e.now.by.0 c.args.self.now.once c.remove_from.ensures.left }
