use Rattle.std.proofs.Common.{rules, ◌≡◌, ◌∙◌, subst}
use Rattle.cx_turn.specs.declared.either.Either.{Either}
use Rattle.cx_cell.specs.Cells.{IsCellPassWith}
use Rattle.cx_cell.specs.Acts.{Does}
use Rattle.cx_cell.proofs.Attempting.{pays_wish, makes_wish}
use Rattle.cx_cell.proofs.cell.Cell.wait_change.Goals as goal

pub fulfil-requires-clause-pays : goal.fulfil-requires-clause-pays
fulfil-requires-clause-pays g c =
    let w = c.new-wish.result in
    let ea : w.a ≡ c.args.a = c.new-wish.ensures.numbers.0 ∙ search rules in
    let eb : w.b ≡ c.args.b = c.new-wish.ensures.numbers.1 ∙ search rules in
    pays_wish g.M.Meaning c.args.pass.now.number w c.args.op c.args.a c.args.b ea eb (IsCellPassWith g.S.Machine.meaning g.M.Meaning c.args.self.now c.args.pass.now) c.new-wish.ensures.change c.requires.pays

pub returns : goal.returns
returns g c v is =
    let w = c.new-wish.result in
    let ea : w.a ≡ c.args.a = c.new-wish.ensures.numbers.0 ∙ search rules in
    let eb : w.b ≡ c.args.b = c.new-wish.ensures.numbers.1 ∙ search rules in
    let q = c.fulfil.ensures v is in
    let d = subst (λ (o : Either). Does g.M.Meaning c.args.pass.now.number w v q.0 o) c.in-Made.is q.2 in
    (q.0, q.1, makes_wish g.M.Meaning c.args.pass.now.number w c.args.op c.args.a c.args.b ea eb _ v q.0 c.in-Made.reply c.in-Made.at c.new-wish.ensures.change d.1 d.2)
