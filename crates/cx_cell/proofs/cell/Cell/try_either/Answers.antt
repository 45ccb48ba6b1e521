use Rattle.std.proofs.Common.{rules, ◌≡◌, ◌∙◌, subst, Option}
use Rattle.cx_machine.specs.Meaning.{IsShut, ShowsNone}
use Rattle.cx_turn.specs.declared.either.Either.{Either}
use Rattle.cx_cell.specs.Cells.{IsCellPassWith}
use Rattle.cx_cell.specs.Acts.{Attempts, Denies}
use Rattle.cx_turn.proofs.Moves.{finds_map}
use Rattle.cx_cell.proofs.Attempting.{pays_wish, shut_wish, dark_wish, does_either, if_some_of, if_none_of}
use Rattle.cx_cell.proofs.cell.Cell.try_either.Goals as goal

pub act-requires-clause-pays : goal.act-requires-clause-pays
act-requires-clause-pays g c =
    let w = c.new-wish.result in
    let ea : w.a ≡ c.args.a = c.new-wish.ensures.numbers.0 ∙ search rules in
    let eb : w.b ≡ c.args.b = c.new-wish.ensures.numbers.1 ∙ search rules in
    pays_wish g.M.Meaning c.args.pass.now.number w c.args.change c.args.a c.args.b ea eb (IsCellPassWith g.S.Machine.meaning g.M.Meaning c.args.self.now c.args.pass.now) c.new-wish.ensures.change c.requires.pays

pub returns-clause-done : goal.returns-clause-done
returns-clause-done g c =
    let w = c.new-wish.result in
    let ea : w.a ≡ c.args.a = c.new-wish.ensures.numbers.0 ∙ search rules in
    let eb : w.b ≡ c.args.b = c.new-wish.ensures.numbers.1 ∙ search rules in
    if_some_of _ c.act.result.0
    (λ d some v is.
    let q = c.act.ensures v is in
    let did = subst (λ (o : Option Either). Attempts g.M.Meaning c.args.pass.now.number w v q.0 o) some q.2 in
    (q.0, q.1, does_either g.M.Meaning c.args.pass.now.number w c.args.change c.args.look c.args.a c.args.b ea eb c.new-wish.ensures.change c.new-wish.ensures.look v q.0 d did))

pub returns-clause-none : goal.returns-clause-none
returns-clause-none g c =
    let w = c.new-wish.result in
    let ea : w.a ≡ c.args.a = c.new-wish.ensures.numbers.0 ∙ search rules in
    let eb : w.b ≡ c.args.b = c.new-wish.ensures.numbers.1 ∙ search rules in
    if_none_of _ c.act.result.0
    (λ none v is.
    let q = c.act.ensures v is in
    let f = subst (λ (o : Option Either). Attempts g.M.Meaning c.args.pass.now.number w v q.0 o) none q.2 in (
      q.0,
      q.1,
      finds_map g.M.Meaning (Denies g.M.Meaning c.args.pass.now.number w) (λ m. IsShut g.M.Meaning.step m c.args.pass.now.number c.args.change c.args.a c.args.b × ShowsNone g.M.Meaning.shows m c.args.pass.now.number c.args.look c.args.a c.args.b) v q.0
          (λ m d. (shut_wish g.M.Meaning c.args.pass.now.number w c.args.change c.args.a c.args.b ea eb c.new-wish.ensures.change m d, dark_wish g.M.Meaning c.args.pass.now.number w c.args.look c.args.a c.args.b ea eb c.new-wish.ensures.look m d)) f,
    ))
