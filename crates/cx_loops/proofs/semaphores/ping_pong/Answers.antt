use Rattle.std.proofs.Common.{◌∙◌, ◌*◌, ℕ, sym, subst, arith}
use Rattle.cx_machine.specs.Latch as latch
use Rattle.cx_machine.specs.Semaphore as semaphore
use Rattle.cx_turn.specs.declared.view.View.{View}
use Rattle.cx_turn.specs.Views.{opening_view, split_left, split_right, less_share, given}
use Rattle.cx_sync.specs.Sync.{IsLatchPassWith, IsSemaphorePassWith}
use Rattle.cx_loops.proofs.semaphores.ping_pong.Goals as goal

-- the two passes of a semaphore after the split
abbrev one : ℕ → View semaphore.Semaphore
one n = split_left (opening_view (semaphore.opening 0 65535) 2 (2 * n) 0) n

abbrev two : ℕ → View semaphore.Semaphore
two n = split_right (opening_view (semaphore.opening 0 65535) 2 (2 * n) 0) n

-- the two passes of the gate after the split
abbrev first : View latch.Latch
first = split_left (opening_view (latch.opening 2) 2 2 2) 1

abbrev second : View latch.Latch
second = split_right (opening_view (latch.opening 2) 2 2 2) 1

-- and once one of the share went over
abbrev less : View latch.Latch
less = less_share first 1

abbrev more : View latch.Latch
more = given second first 1

pub give-requires-clause-from : goal.give-requires-clause-from
give-requires-clause-from g c = (first, c.split-theirs.ensures.first _ c.in_ok-gate.ensures.pass)

pub give-requires-clause-to : goal.give-requires-clause-to
give-requires-clause-to g c = (second, c.split-theirs.ensures.second _ c.in_ok-gate.ensures.pass)

pub give-requires-clause-share : goal.give-requires-clause-share
give-requires-clause-share g c = let a = c.split-theirs.ensures.first _ c.in_ok-gate.ensures.pass in omega (arith, a.counted.part)

pub second-requires-after_bounds : goal.second-requires-after_bounds
second-requires-after_bounds g c κs within =
    let n = c.args.n in
    let out = c.split-releases.ensures.second _ c.in_ok-back.ensures.pass in
    let back = c.split-acquires.ensures.second _ c.in_ok-there.ensures.pass in
    let a = c.split-theirs.ensures.first _ c.in_ok-gate.ensures.pass in let b = c.split-theirs.ensures.second _ c.in_ok-gate.ensures.pass in
    let f = c.give.ensures.to first second a b in
    let at_out = c.in_ok-its_out.ensures ∙ c.in_ok-back-2.ensures.ok in
    let at_back = c.in_ok-its_back.ensures ∙ c.in_ok-there-2.ensures.ok in
    let at_gate = c.in_ok-its_gate.ensures ∙ c.in_ok-gate-2.ensures.ok in (
      ((two n, subst (λ t. IsSemaphorePassWith t c.split-releases.result (two n)) (sym at_out) out), omega (arith, out.counted.may, c.requires.0)),
      ((two n, subst (λ t. IsSemaphorePassWith t c.split-acquires.result (two n)) (sym at_back) back), omega (arith, back.counted.may, c.requires.0)),
      ((more, subst (λ t. IsLatchPassWith t c.give.new.to more) (sym at_gate) f), omega (arith, f.counted.may), omega (arith, f.counted.part)),
    )

pub arrive_and_wait-requires-clause-pass : goal.arrive_and_wait-requires-clause-pass
arrive_and_wait-requires-clause-pass g c =
    let f = c.give.ensures.from first (c.split-theirs.ensures.first _ c.in_ok-gate.ensures.pass) in
    let e = c.deref.ensures ∙ c.in_ok-gate-2.ensures.ok in
    (less, subst (λ t. IsLatchPassWith t c.give.new.from less) (sym e) f)

pub arrive_and_wait-requires-clause-left : goal.arrive_and_wait-requires-clause-left
arrive_and_wait-requires-clause-left g c = let f = c.give.ensures.from first (c.split-theirs.ensures.first _ c.in_ok-gate.ensures.pass) in omega (arith, f.counted.may)

pub arrive_and_wait-requires-clause-share : goal.arrive_and_wait-requires-clause-share
arrive_and_wait-requires-clause-share g c = let f = c.give.ensures.from first (c.split-theirs.ensures.first _ c.in_ok-gate.ensures.pass) in omega (arith, f.counted.part)

pub rally-made-requires-clause-out : goal.rally-made-requires-clause-out
rally-made-requires-clause-out g c =
    let n = c.args.n in
    let a = c.split-acquires.ensures.first _ c.in_ok-there.ensures.pass in
    let e = c.deref-2.ensures ∙ c.in_ok-there-2.ensures.ok in
    ((one n, subst (λ t. IsSemaphorePassWith t c.split-acquires.new.first (one n)) (sym e) a), omega (arith, a.counted.may))

pub rally-made-requires-clause-back : goal.rally-made-requires-clause-back
rally-made-requires-clause-back g c =
    let n = c.args.n in
    let a = c.split-releases.ensures.first _ c.in_ok-back.ensures.pass in
    let e = c.deref-3.ensures ∙ c.in_ok-back-2.ensures.ok in
    ((one n, subst (λ t. IsSemaphorePassWith t c.split-releases.new.first (one n)) (sym e) a), omega (arith, a.counted.may))
