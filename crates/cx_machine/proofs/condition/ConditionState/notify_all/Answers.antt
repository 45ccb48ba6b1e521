use Rattle.std.proofs.Common.{arith}
use Rattle.cx_machine.specs.Waiters.{once_turned}
use Rattle.cx_machine.proofs.condition.ConditionState.notify_all.Goals as goal

pub invariant_of-self : goal.invariant_of-self
invariant_of-self c =
    let ok = c.extend_from_slice-moved.ensures.succeeds (omega (arith, c.deref.ensures.len, c.args.self.now.to_be_told)) in
    let items = rw ok at c.extend_from_slice-moved.ensures.items in
    let len = rw ok at c.extend_from_slice-moved.ensures.len in
    record { once = rw (c.clear.ensures.items, items, c.deref.ensures.value) (once_turned c.args.self.now.waiting.items c.args.self.now.notified.items c.args.self.now.once); to_wait = omega (arith, len, c.deref.ensures.len, c.clear.ensures.len, c.clear.ensures.capacity, c.args.self.now.to_wait); to_be_told = omega (arith, len, c.deref.ensures.len, c.clear.ensures.len, c.extend_from_slice-moved.ensures.capacity, c.args.self.now.to_be_told) }
