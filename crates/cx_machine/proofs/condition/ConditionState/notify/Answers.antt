use Rattle.std.proofs.Common.{◌≡◌, ◌+◌, true, sym, ◌∙◌, arith}
use Rattle.std.specs.Prelude.{vec_len}
use Rattle.cx_machine.specs.Words.{has}
use Rattle.cx_machine.specs.Waiters.{once_moved, shorter}
use Rattle.cx_machine.proofs.condition.ConditionState.notify.Goals as goal

pub invariant_of-self : goal.invariant_of-self
invariant_of-self c =
    let h : has c.args.self.now.waiting.items c.args.t.0 ≡ true = rw c.deref.ensures.value at (sym c.has-allowed.ensures ∙ c.if-allowed.true) in
    let len : vec_len c.remove_from.new.ns + 1 ≡ vec_len c.args.self.now.waiting = shorter c.args.self.now.waiting c.remove_from.new.ns c.args.self.now.notified.items c.args.t.0 c.args.self.now.once h c.remove_from.ensures.left in
    record { once = rw (c.remove_from.ensures.left, c.push_reserved.ensures.items) (once_moved c.args.self.now.waiting.items c.args.self.now.notified.items c.args.t.0 c.args.self.now.once h); to_wait = omega (arith, len, c.push_reserved.ensures.len, c.remove_from.ensures.room, c.args.self.now.to_wait); to_be_told = omega (arith, len, c.push_reserved.ensures.len, c.push_reserved.ensures.capacity, c.args.self.now.to_be_told) }

pub returns-then-allowed-clause-room : goal.returns-then-allowed-clause-room
returns-then-allowed-clause-room c =
    let h : has c.args.self.now.waiting.items c.args.t.0 ≡ true = rw c.deref.ensures.value at (sym c.has-allowed.ensures ∙ c.if-allowed.true) in
    let len : vec_len c.remove_from.new.ns + 1 ≡ vec_len c.args.self.now.waiting = shorter c.args.self.now.waiting c.remove_from.new.ns c.args.self.now.notified.items c.args.t.0 c.args.self.now.once h c.remove_from.ensures.left in
    omega (arith, len, c.push_reserved.ensures.len)
