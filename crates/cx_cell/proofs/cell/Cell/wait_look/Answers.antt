use Rattle.std.proofs.Common.{rules, ◌≡◌, ◌∙◌, subst}
use Rattle.cx_turn.specs.declared.either.Either.{Either}
use Rattle.cx_cell.specs.Acts.{Does}
use Rattle.cx_cell.proofs.Attempting.{looks_wish}
use Rattle.cx_cell.proofs.cell.Cell.wait_look.Goals as goal

pub returns : goal.returns
returns g c v is =
    let w = c.new-wish.result in
    let ea : w.a ≡ c.args.a = c.new-wish.ensures.numbers.0 ∙ search rules in
    let eb : w.b ≡ c.args.b = c.new-wish.ensures.numbers.1 ∙ search rules in
    let q = c.fulfil.ensures v is in
    let d = subst (λ (o : Either). Does g.M.Meaning c.args.pass.now.number w v q.0 o) c.in-Seen.is q.2 in
    (q.0, q.1, looks_wish g.M.Meaning c.args.pass.now.number w c.args.op c.args.a c.args.b ea eb _ v q.0 c.in-Seen.reply c.in-Seen.at c.new-wish.ensures.look d.1 d.2)
