use Rattle.std.proofs.Common.{◌≡◌, ◌+◌, true, sym, ◌∙◌, arith}
use Rattle.std.specs.Prelude.{vec_len}
use Rattle.cx_machine.specs.Words.{has}
use Rattle.cx_machine.specs.Waiters.{once_unblocked, once_turned, shorter}
use Rattle.cx_machine.proofs.condition.ConditionState.unblock.Goals as goal

pub invariant_of-self : goal.invariant_of-self
invariant_of-self c =
    let h : has c.args.self.now.notified.items c.args.by.0 ≡ true = rw c.deref.ensures.value at (sym c.has-allowed.ensures ∙ c.if-allowed.true) in
    let len : vec_len c.remove_from.new.ns + 1 ≡ vec_len c.args.self.now.notified = shorter c.args.self.now.notified c.remove_from.new.ns c.args.self.now.waiting.items c.args.by.0 (once_turned c.args.self.now.waiting.items c.args.self.now.notified.items c.args.self.now.once) h c.remove_from.ensures.left in
    record { once = rw c.remove_from.ensures.left (once_unblocked c.args.self.now.waiting.items c.args.self.now.notified.items c.args.by.0 c.args.self.now.once); to_wait = omega (arith, len, c.args.self.now.to_wait); to_be_told = omega (arith, len, c.remove_from.ensures.room, c.args.self.now.to_be_told) }

pub returns-then-allowed-clause-room : goal.returns-then-allowed-clause-room
returns-then-allowed-clause-room c =
    let h : has c.args.self.now.notified.items c.args.by.0 ≡ true = rw c.deref.ensures.value at (sym c.has-allowed.ensures ∙ c.if-allowed.true) in
    let len : vec_len c.remove_from.new.ns + 1 ≡ vec_len c.args.self.now.notified = shorter c.args.self.now.notified c.remove_from.new.ns c.args.self.now.waiting.items c.args.by.0 (once_turned c.args.self.now.waiting.items c.args.self.now.notified.items c.args.self.now.once) h c.remove_from.ensures.left in
    omega (arith, len)
