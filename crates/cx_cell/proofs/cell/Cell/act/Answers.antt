use Rattle.cx_cell.proofs.cell.Cell.act.Goals as goal

pub rouse-requires : goal.rouse-requires
rouse-requires g c = let p = c.requires.pass in let t = c.attempt-outcome.ensures p.0 p.1 in (t.0, t.1)

pub returns : goal.returns
returns g c v is = let t = c.attempt-outcome.ensures v is in (t.0, c.rouse.ensures.pass t.0 t.1, t.2)
