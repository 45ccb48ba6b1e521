use Rattle.std.proofs.Common.{◌≡◌, ◌∙◌, sym, subst, arith}
use Rattle.cx_machine.specs.Barrier as machine
use Rattle.cx_turn.specs.declared.view.View.{View}
use Rattle.cx_barrier.specs.declared.barrier.Barrier.{Barrier}
use Rattle.cx_barrier.specs.declared.pass.BarrierPass.{BarrierPass}
use Rattle.cx_barrier.specs.Barriers.{IsBarrierPassWith}
use Rattle.cx_loops.proofs.barriers.phases.Goals as goal

-- what is so of the barrier is so of its equal
same_barrier : (p : BarrierPass) (v : View machine.Barrier) {x y : Barrier} → x ≡ y → IsBarrierPassWith x p v → IsBarrierPassWith y p v
same_barrier p v e is = subst (λ t. IsBarrierPassWith t p v) e is

pub phaser-requires-after_bounds : goal.phaser-requires-after_bounds
phaser-requires-after_bounds g c κs within =
    let i = c.loop-started.invariant in
    let mine = c.split-pass.ensures.second i.0 (same_barrier _ _ (sym c.deref.ensures) i.1) in
    let at_barrier = c.deref.ensures ∙ sym c.in_ok-theirs.ensures in
    ((_, same_barrier _ _ at_barrier mine), omega (arith, mine.pass.counted.may))
