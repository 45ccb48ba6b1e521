use Rattle.std.proofs.Common.{◌≡◌, ℕ, ◌<◌, ◌&&◌, nat_lt}
use Rattle.cx_turn.specs.declared.view.View.{View}
use Rattle.cx_cell.specs.Callers.{is_called}
use Rattle.cx_cell.specs.Cells.{IsCellPassWith}
use Rattle.cx_cell.proofs.cell.Cell.rouse.Given as goal

abbrev pub invariant-loop-seat : goal.invariant-loop-seat
invariant-loop-seat g l = ((v : View g.row.M.Denot) → IsCellPassWith g.S.Machine.meaning g.M.Meaning l.self l.initial.pass v → IsCellPassWith g.S.Machine.meaning g.M.Meaning l.self l.pass v) × ((n : ℕ) → n < 256 → is_called l.woken n ≡ (nat_lt n l.seat && is_called l.called n))
