use Rattle.std.proofs.Common.{arith}
use Rattle.cx_machine.specs.Waiters.{once_entered}
use Rattle.cx_machine.proofs.condition.ConditionState.put.Goals as goal

pub invariant_of-self : goal.invariant_of-self
invariant_of-self c = record { once = rw c.push_reserved.ensures.items (once_entered c.args.self.now.waiting.items c.args.self.now.notified.items c.args.by.0 c.args.self.now.once c.requires.away); to_wait = omega (arith, c.push_reserved.ensures.len, c.push_reserved.ensures.capacity, c.args.self.now.to_wait, c.requires.room); to_be_told = omega (arith, c.push_reserved.ensures.len, c.args.self.now.to_be_told, c.requires.room) }
