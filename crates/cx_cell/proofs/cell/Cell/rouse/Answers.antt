use Rattle.std.proofs.Common.{◌∙◌, ◌&&◌, ◌||◌, ◌==◌, Bool, ap}
use Rattle.cx_cell.specs.Callers.{is_called}
use Rattle.cx_cell.proofs.Bits.{told_more}
use Rattle.cx_cell.proofs.cell.Cell.rouse.Goals as goal

pub wake_one-requires-clause-pass : goal.wake_one-requires-clause-pass
wake_one-requires-clause-pass g c = let p = c.requires in (p.0, c.loop-seat.invariant.0 p.0 p.1)

pub loop-seat-preserved : goal.loop-seat-preserved
loop-seat-preserved g c =
    let b = c.args.called.now in
    let seat = c.loop-seat.seat in (
      λ v is. c.wake_one.ensures.pass v (c.loop-seat.invariant.0 v is),
      λ n low. c.wake_one.ensures.woken n low ∙ (ap (λ (x : Bool). x || (is_called b n && (seat == n))) (c.loop-seat.invariant.1 n low) ∙ told_more n seat (is_called b n)),
    )
