use Rattle.std.proofs.Common.{◌≡◌, ◌∙◌, ◌<◌, sym, subst, arith, false}
use Rattle.cx_machine.specs.Latch as latch
use Rattle.cx_machine.specs.Shared as machine
use Rattle.cx_turn.specs.declared.view.View.{View}
use Rattle.cx_turn.specs.declared.pass.Pass.{Pass}
use Rattle.cx_turn.specs.Views.{split_left, split_right}
use Rattle.cx_shared_mutex.specs.declared.shared_mutex.SharedMutex.{SharedMutex}
use Rattle.cx_shared_mutex.specs.SharedMutexes.{IsSharedPassWith}
use Rattle.cx_sync.specs.declared.latch.Latch.{Latch}
use Rattle.cx_sync.specs.Sync.{IsLatchPassWith}
use Rattle.cx_loops.proofs.shared_mutexes.together.Goals as goal

-- what is so of the mutex, or the latch, is so of its equal
same_mutex : (p : Pass machine.Shared) (v : View machine.Shared) {x y : SharedMutex} → x ≡ y → IsSharedPassWith x p v → IsSharedPassWith y p v
same_mutex p v e is = subst (λ t. IsSharedPassWith t p v) e is

same_latch : (p : Pass latch.Latch) (v : View latch.Latch) {x y : Latch} → x ≡ y → IsLatchPassWith x p v → IsLatchPassWith y p v
same_latch p v e is = subst (λ t. IsLatchPassWith t p v) e is

pub give-requires-clause-from : goal.give-requires-clause-from
give-requires-clause-from g c =
    let i = c.loop-started.invariant in
    let a = c.split-theirs.ensures.first i.2.0 (same_latch _ _ (sym c.deref-in-loop-started.ensures) i.2.1) in
    (split_left i.2.0 1, same_latch _ _ (c.deref-in-loop-started.ensures ∙ sym c.deref-in-loop-started-2.ensures) a)

pub give-requires-clause-to : goal.give-requires-clause-to
give-requires-clause-to g c =
    let i = c.loop-started.invariant in
    let b = c.split-theirs.ensures.second i.2.0 (same_latch _ _ (sym c.deref-in-loop-started.ensures) i.2.1) in
    (split_right i.2.0 1, same_latch _ _ (c.deref-in-loop-started.ensures ∙ sym c.deref-in-loop-started-2.ensures) b)

pub reader-requires-after_bounds : goal.reader-requires-after_bounds
reader-requires-after_bounds g c κs within =
    let i = c.loop-started.invariant in
    let mine = c.split-pass.ensures.second i.0.0 (same_mutex _ _ (sym c.deref.ensures) i.0.1) in
    let at_mutex = c.deref.ensures ∙ sym c.in_ok-its_mutex.ensures in
    let a = c.split-theirs.ensures.first i.2.0 (same_latch _ _ (sym c.deref-in-loop-started.ensures) i.2.1) in
    let b = c.split-theirs.ensures.second i.2.0 (same_latch _ _ (sym c.deref-in-loop-started.ensures) i.2.1) in
    let to_give = c.deref-in-loop-started.ensures ∙ sym c.deref-in-loop-started-2.ensures in
    let f = c.give.ensures.to (split_left i.2.0 1) (split_right i.2.0 1) (same_latch _ _ to_give a) (same_latch _ _ to_give b) in
    let at_gate = c.deref-in-loop-started-2.ensures ∙ sym c.in_ok-its_gate.ensures in (
      ((_, same_mutex _ _ at_mutex mine), λ w is. c.split-pass.ensures.bare w (same_mutex _ _ (sym at_mutex) is), omega (arith, mine.counted.may)),
      ((_, same_latch _ _ at_gate f), omega (arith, f.counted.may), omega (arith, f.counted.part)),
    )

pub loop-started-preserved : goal.loop-started-preserved
loop-started-preserved g c =
    let i = c.loop-started.invariant in
    let left = c.split-pass.ensures.first i.0.0 (same_mutex _ _ (sym c.deref.ensures) i.0.1) in
    let bare = c.split-pass.ensures.owner false false (λ w is. i.1 w (same_mutex _ _ c.deref.ensures is)) in
    let a = c.split-theirs.ensures.first i.2.0 (same_latch _ _ (sym c.deref-in-loop-started.ensures) i.2.1) in
    let f = c.give.ensures.from (split_left i.2.0 1) (same_latch _ _ (c.deref-in-loop-started.ensures ∙ sym c.deref-in-loop-started-2.ensures) a) in
    let below : c.loop-started.started < c.args.threads = omega (arith, c.loop-started.auto.started) in (
      (_, same_mutex _ _ c.deref.ensures left, i.0.2, omega (arith, i.0.3)),
      λ w is. bare w (same_mutex _ _ (sym c.deref.ensures) is),
      (_, same_latch _ _ c.deref-in-loop-started-2.ensures f, i.2.2, omega (arith, i.2.3), omega (arith, i.2.4, below), omega (arith, i.2.5, below)),
    )
