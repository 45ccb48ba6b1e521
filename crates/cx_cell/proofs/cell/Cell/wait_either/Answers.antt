use Rattle.std.proofs.Common.{pos}
use Rattle.cx_cell.specs.Cells.{IsCellPassWith}
use Rattle.cx_cell.proofs.Attempting.{pays_wish, does_either}
use Rattle.cx_cell.proofs.cell.Cell.wait_either.Goals as goal

pub fulfil-requires-clause-pays : goal.fulfil-requires-clause-pays
fulfil-requires-clause-pays g c =
    let w = c.new-wish.result in
    let ea = c.new-wish.ensures.numbers.0 in
    let eb = c.new-wish.ensures.numbers.1 in
    pays_wish g.M.Meaning c.args.pass.now.number w c.args.change (pos 0) (pos 0) ea eb (IsCellPassWith g.S.Machine.meaning g.M.Meaning c.args.self.now c.args.pass.now) c.new-wish.ensures.change c.requires.pays

pub returns : goal.returns
returns g c v is =
    let w = c.new-wish.result in
    let q = c.fulfil.ensures v is in
    (q.0, q.1, does_either g.M.Meaning c.args.pass.now.number w c.args.change c.args.look (pos 0) (pos 0) c.new-wish.ensures.numbers.0 c.new-wish.ensures.numbers.1 c.new-wish.ensures.change c.new-wish.ensures.look v q.0 c.fulfil.result q.2)
