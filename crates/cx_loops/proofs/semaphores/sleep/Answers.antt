use Rattle.std.proofs.Common.{◌∙◌, sym, subst, arith}
use Rattle.cx_machine.specs.Semaphore.{Semaphore, opening}
use Rattle.cx_turn.specs.declared.view.View.{View}
use Rattle.cx_turn.specs.Views.{opening_view, split_left, split_right}
use Rattle.cx_sync.specs.Sync.{IsSemaphorePassWith}
use Rattle.cx_loops.proofs.semaphores.sleep.Goals as goal

-- the first pass and the second after the split
abbrev one : View Semaphore
one = split_left (opening_view (opening 0 1) 2 2 0) 1

abbrev two : View Semaphore
two = split_right (opening_view (opening 0 1) 2 2 0) 1

pub late-requires-after_bounds : goal.late-requires-after_bounds
late-requires-after_bounds g c κs within =
    let b = c.split-pass.ensures.second _ c.in_ok-semaphore.ensures.pass in
    let e = c.in_ok-theirs.ensures ∙ c.in_ok-semaphore-2.ensures.ok in
    ((two, subst (λ t. IsSemaphorePassWith t c.split-pass.result two) (sym e) b), omega (arith, b.counted.may))

pub acquire-requires-clause-pass : goal.acquire-requires-clause-pass
acquire-requires-clause-pass g c =
    let a = c.split-pass.ensures.first _ c.in_ok-semaphore.ensures.pass in
    let e = c.deref.ensures ∙ c.in_ok-semaphore-2.ensures.ok in
    (one, subst (λ t. IsSemaphorePassWith t c.split-pass.new.first one) (sym e) a)

pub acquire-requires-clause-left : goal.acquire-requires-clause-left
acquire-requires-clause-left g c = let a = c.split-pass.ensures.first _ c.in_ok-semaphore.ensures.pass in omega (arith, a.counted.may)
