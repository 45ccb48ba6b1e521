use Rattle.std.proofs.Common.{rules, ◌≡◌, ◌∙◌, subst, Option}
use Rattle.cx_machine.specs.Meaning.{IsShut, ShowsNone}
use Rattle.cx_turn.specs.declared.either.Either.{Either}
use Rattle.cx_turn.proofs.Moves.{finds_map}
use Rattle.cx_cell.specs.Cells.{IsCellPassWith}
use Rattle.cx_cell.specs.Acts.{Attempts, Denies}
use Rattle.cx_cell.proofs.Attempting.{pays_wish, shut_wish, dark_wish, does_either}
use Rattle.cx_cell.proofs.cell.Cell.try_either_then.Goals as goal

pub attempt_then-done-requires-clause-pays : goal.attempt_then-done-requires-clause-pays
attempt_then-done-requires-clause-pays g c =
    let w = c.new-wish.result in
    let ea : w.a ≡ c.args.a = c.new-wish.ensures.numbers.0 ∙ search rules in
    let eb : w.b ≡ c.args.b = c.new-wish.ensures.numbers.1 ∙ search rules in
    pays_wish g.M.Meaning c.args.pass.now.number w c.args.change c.args.a c.args.b ea eb (IsCellPassWith g.S.Machine.meaning g.M.Meaning c.args.self.now c.args.pass.now) c.new-wish.ensures.change c.requires.pays

pub rouse-requires : goal.rouse-requires
rouse-requires g c = let p = c.requires.pass in let t = c.attempt_then-done.ensures p.0 p.1 in (t.0, t.1)

pub returns-in-Some-clause-done : goal.returns-in-Some-clause-done
returns-in-Some-clause-done g c v is =
    let w = c.new-wish.result in
    let ea : w.a ≡ c.args.a = c.new-wish.ensures.numbers.0 ∙ search rules in
    let eb : w.b ≡ c.args.b = c.new-wish.ensures.numbers.1 ∙ search rules in
    let q = c.attempt_then-done.ensures v is in
    let did = subst (λ (o : Option Either). Attempts g.M.Meaning c.args.pass.now.number w v q.0 o) c.in-Some.is q.2 in
    (q.0, c.rouse.ensures.pass q.0 q.1, does_either g.M.Meaning c.args.pass.now.number w c.args.change c.args.look c.args.a c.args.b ea eb c.new-wish.ensures.change c.new-wish.ensures.look v q.0 c.in-Some.done did, q.3)

pub returns-in-None-clause-none : goal.returns-in-None-clause-none
returns-in-None-clause-none g c v is =
    let w = c.new-wish.result in
    let ea : w.a ≡ c.args.a = c.new-wish.ensures.numbers.0 ∙ search rules in
    let eb : w.b ≡ c.args.b = c.new-wish.ensures.numbers.1 ∙ search rules in
    let q = c.attempt_then-done.ensures v is in
    let f = subst (λ (o : Option Either). Attempts g.M.Meaning c.args.pass.now.number w v q.0 o) c.in-None.is q.2 in (
      q.0,
      c.rouse.ensures.pass q.0 q.1,
      finds_map g.M.Meaning (Denies g.M.Meaning c.args.pass.now.number w) (λ m. IsShut g.M.Meaning.step m c.args.pass.now.number c.args.change c.args.a c.args.b × ShowsNone g.M.Meaning.shows m c.args.pass.now.number c.args.look c.args.a c.args.b) v q.0
          (λ m d. (shut_wish g.M.Meaning c.args.pass.now.number w c.args.change c.args.a c.args.b ea eb c.new-wish.ensures.change m d, dark_wish g.M.Meaning c.args.pass.now.number w c.args.look c.args.a c.args.b ea eb c.new-wish.ensures.look m d)) f,
    )
