use Rattle.std.proofs.Common.{◌≡◌, ◌∙◌, sym, subst, arith}
use Rattle.cx_machine.specs.Shared as machine
use Rattle.cx_turn.specs.declared.view.View.{View}
use Rattle.cx_turn.specs.declared.pass.Pass.{Pass}
use Rattle.cx_shared_mutex.specs.declared.shared_mutex.SharedMutex.{SharedMutex}
use Rattle.cx_shared_mutex.specs.SharedMutexes.{IsSharedPassWith}
use Rattle.cx_object_tests.proofs.shared_threads.eight_work.Goals as goal

-- what is so of the mutex is so of its equal
same_mutex : (p : Pass machine.Shared) (v : View machine.Shared) {x y : SharedMutex} → x ≡ y → IsSharedPassWith x p v → IsSharedPassWith y p v
same_mutex p v e is = subst (λ t. IsSharedPassWith t p v) e is

pub worker-requires-after_bounds : goal.worker-requires-after_bounds
worker-requires-after_bounds g c κs within =
    let i = c.loop-started.invariant in
    let mine = c.split-pass.ensures.second i.0 (same_mutex _ _ (sym c.deref.ensures) i.1) in
    let at_mutex = c.deref.ensures ∙ sym c.in_ok-theirs.ensures in
    ((_, same_mutex _ _ at_mutex mine), λ w is. c.split-pass.ensures.bare w (same_mutex _ _ (sym at_mutex) is), omega (arith, mine.counted.may))
