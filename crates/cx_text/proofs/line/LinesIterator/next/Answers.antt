use Rattle.std.proofs.Common.{rules, ◌<◌, ℕ, List, length, ap, refl, arith}
use Rattle.std.specs.List.{slice_split}
use Rattle.std.proofs.lemmas.List.{nil_from_length}
use Rattle.cx_text.specs.Lines.{lines_from}
use Rattle.cx_text.specs.Views.{lines_left}
use Rattle.cx_text.proofs.LinesLeft.{given_first, given_last, is_feed}
use Rattle.cx_text.proofs.line.LinesIterator.next.Goals as goal

pub returns-then-end-rest-clause-steps : goal.returns-then-end-rest-clause-steps
unfolding lines_left
returns-then-end-rest-clause-steps c =
    given_first _ _ _ _ _ _ c.feed_at-end.ensures c.if-end-rest.true (search rules) (search rules) c.is_empty.ensures

pub returns-then-end-rest-clause-goes : goal.returns-then-end-rest-clause-goes
returns-then-end-rest-clause-goes c =
    let shorter = ap length (returns-then-end-rest-clause-steps c) in
    search rules

pub returns-then-is_empty-clause-steps : goal.returns-then-is_empty-clause-steps
unfolding lines_left
returns-then-is_empty-clause-steps c =
    let none = nil_from_length c.args.self.now.rest.now (search rules) in
    (ap (λ (r : List ℕ). lines_from c.args.self.now.over (slice_split is_feed r)) none, refl)

pub returns-clause-steps : goal.returns-clause-steps
unfolding lines_left
returns-clause-steps c =
    let some : 0 < length c.args.self.now.rest.now = search rules in
    given_last c.args.self.now.over c.args.self.now.rest.now (omega (arith, c.feed_at-end.ensures, c.if-end-rest.false)) some

pub returns-clause-goes : goal.returns-clause-goes
returns-clause-goes c =
    let shorter = ap length (returns-clause-steps c) in
    search rules
