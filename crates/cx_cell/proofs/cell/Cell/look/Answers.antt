use Rattle.std.proofs.Common.{rules, ◌≡◌, ◌∙◌, subst, ap, Some, Option}
use Rattle.cx_machine.specs.Meaning.{ShowsNone}
use Rattle.cx_turn.specs.declared.either.Either.{Either}
use Rattle.cx_cell.specs.Acts.{Attempts, Denies}
use Rattle.cx_turn.proofs.Moves.{finds_map}
use Rattle.cx_cell.proofs.Attempting.{looks_wish, dark_wish}
use Rattle.cx_cell.proofs.cell.Cell.look.Goals as goal

pub returns-in-Seen-clause-seen : goal.returns-in-Seen-clause-seen
returns-in-Seen-clause-seen g c v is =
    let w = c.new-wish.result in
    let ea : w.a ≡ c.args.a = c.new-wish.ensures.numbers.0 ∙ search rules in
    let eb : w.b ≡ c.args.b = c.new-wish.ensures.numbers.1 ∙ search rules in
    let q = c.act.ensures v is in
    let d = subst (λ (o : Option Either). Attempts g.M.Meaning c.args.pass.now.number w v q.0 o) (c.in-Some.is ∙ ap (λ (x : Either). Some x) c.in-Seen.is) q.2 in
    (q.0, q.1, looks_wish g.M.Meaning c.args.pass.now.number w c.args.op c.args.a c.args.b ea eb _ v q.0 c.in-Seen.reply c.in-Seen.at c.new-wish.ensures.look d.1 d.2)

pub returns-in-None-clause-none : goal.returns-in-None-clause-none
returns-in-None-clause-none g c v is =
    let w = c.new-wish.result in
    let ea : w.a ≡ c.args.a = c.new-wish.ensures.numbers.0 ∙ search rules in
    let eb : w.b ≡ c.args.b = c.new-wish.ensures.numbers.1 ∙ search rules in
    let q = c.act.ensures v is in
    let f = subst (λ (o : Option Either). Attempts g.M.Meaning c.args.pass.now.number w v q.0 o) c.in-None.is q.2 in
    (q.0, q.1, finds_map g.M.Meaning (Denies g.M.Meaning c.args.pass.now.number w) (λ m. ShowsNone g.M.Meaning.shows m c.args.pass.now.number c.args.op c.args.a c.args.b) v q.0 (λ m d. dark_wish g.M.Meaning c.args.pass.now.number w c.args.op c.args.a c.args.b ea eb c.new-wish.ensures.look m d) f)
