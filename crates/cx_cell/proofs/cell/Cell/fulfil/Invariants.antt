use Rattle.cx_turn.specs.declared.view.View.{View}
use Rattle.cx_turn.specs.Acts.{Sees}
use Rattle.cx_cell.specs.Cells.{IsCellPassWith}
use Rattle.cx_cell.proofs.cell.Cell.fulfil.Given as goal

abbrev pub invariant-loop : goal.invariant-loop
invariant-loop g l =
    (goal.iterator-loop g).can_next l.iterator' × (goal.iterator-loop g).is_finite l.iterator'
    × ((v : View g.row.M.Denot) → IsCellPassWith g.S.Machine.meaning g.M.Meaning l.self l.initial.pass v → (u : View g.row.M.Denot) × IsCellPassWith g.S.Machine.meaning g.M.Meaning l.self l.pass u × Sees v u)
