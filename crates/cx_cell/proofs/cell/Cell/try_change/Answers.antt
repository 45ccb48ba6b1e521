use Rattle.std.proofs.Common.{rules, ◌≡◌, ◌∙◌, subst, ap, Some, Option}
use Rattle.cx_machine.specs.Meaning.{IsShut}
use Rattle.cx_turn.specs.declared.either.Either.{Either}
use Rattle.cx_cell.specs.Cells.{IsCellPassWith}
use Rattle.cx_cell.specs.Acts.{Attempts, Denies}
use Rattle.cx_turn.proofs.Moves.{finds_map}
use Rattle.cx_cell.proofs.Attempting.{pays_wish, makes_wish, shut_wish}
use Rattle.cx_cell.proofs.cell.Cell.try_change.Goals as goal

pub act-requires-clause-pays : goal.act-requires-clause-pays
act-requires-clause-pays g c =
    let w = c.new-wish.result in
    let ea : w.a ≡ c.args.a = c.new-wish.ensures.numbers.0 ∙ search rules in
    let eb : w.b ≡ c.args.b = c.new-wish.ensures.numbers.1 ∙ search rules in
    pays_wish g.M.Meaning c.args.pass.now.number w c.args.op c.args.a c.args.b ea eb (IsCellPassWith g.S.Machine.meaning g.M.Meaning c.args.self.now c.args.pass.now) c.new-wish.ensures.change c.requires.pays

pub returns-in-Made-clause-made : goal.returns-in-Made-clause-made
returns-in-Made-clause-made g c v is =
    let w = c.new-wish.result in
    let ea : w.a ≡ c.args.a = c.new-wish.ensures.numbers.0 ∙ search rules in
    let eb : w.b ≡ c.args.b = c.new-wish.ensures.numbers.1 ∙ search rules in
    let q = c.act.ensures v is in
    let d = subst (λ (o : Option Either). Attempts g.M.Meaning c.args.pass.now.number w v q.0 o) (c.in-Some.is ∙ ap (λ (x : Either). Some x) c.in-Made.is) q.2 in
    (q.0, q.1, makes_wish g.M.Meaning c.args.pass.now.number w c.args.op c.args.a c.args.b ea eb _ v q.0 c.in-Made.reply c.in-Made.at c.new-wish.ensures.change d.1 d.2)

pub returns-in-None-clause-none : goal.returns-in-None-clause-none
returns-in-None-clause-none g c v is =
    let w = c.new-wish.result in
    let ea : w.a ≡ c.args.a = c.new-wish.ensures.numbers.0 ∙ search rules in
    let eb : w.b ≡ c.args.b = c.new-wish.ensures.numbers.1 ∙ search rules in
    let q = c.act.ensures v is in
    let f = subst (λ (o : Option Either). Attempts g.M.Meaning c.args.pass.now.number w v q.0 o) c.in-None.is q.2 in
    (q.0, q.1, finds_map g.M.Meaning (Denies g.M.Meaning c.args.pass.now.number w) (λ m. IsShut g.M.Meaning.step m c.args.pass.now.number c.args.op c.args.a c.args.b) v q.0 (λ m d. shut_wish g.M.Meaning c.args.pass.now.number w c.args.op c.args.a c.args.b ea eb c.new-wish.ensures.change m d) f)
