use Rattle.std.proofs.Common.{map, sym, ◌∙◌, ◌+◌, ap, drop, filter, slice_get, if◌then◌else◌, subst, ℕ, ◌≤◌}
use Rattle.std.proofs.lemmas.List.{length-map}
use Rattle.cx_checker.specs.Views.{placed_of}
use Rattle.cx_checker.proofs.Placings.{second_step, second_same, second_none}
use Rattle.cx_history.specs.Histories.{is_at}
use Rattle.cx_checker.proofs.placing.second_at.Goals as goal
use Rattle.cx_checker.proofs.placing.second_at.Goals.{then-here+else-has_one, else-here}

pub returns-then-has_one : goal.returns-then-has_one
returns-then-has_one c = (second_step c.args.k c.loop-i.i (map placed_of c.args.changes.now) (placed_of c.change_at-change.result) c.loop-i.has_one c.change_at-change.ensures (sym c.is_at-here.ensures ∙ c.if-here.true) c.loop-i.invariant).0 c.if-has_one.true

pub loop-i-preserved : goal.loop-i-preserved
loop-i-preserved c =
    let later = filter (is_at c.args.k) (drop (c.loop-i.i + 1) (map placed_of c.args.changes.now)) in
    elim c.if-here.branch [
      | then-here+else-has_one w ↦
          (second_step c.args.k c.loop-i.i (map placed_of c.args.changes.now) (placed_of c.change_at-change.result) c.loop-i.has_one c.change_at-change.ensures (sym c.is_at-here.ensures ∙ w.if-here.true) c.loop-i.invariant).1 w.if-has_one.false
          ∙ ap (λ b. slice_get later (if b then 0 else 1)) (sym w.has_one-is)
      | else-here w ↦
          second_same c.args.k c.loop-i.i (if c.loop-i.has_one then 0 else 1) (map placed_of c.args.changes.now) (placed_of c.change_at-change.result) c.change_at-change.ensures (sym c.is_at-here.ensures ∙ w.if-here.false) c.loop-i.invariant
          ∙ ap (λ b. slice_get later (if b then 0 else 1)) (sym w.has_one-is)
    ]

pub returns : goal.returns
returns c = sym (second_none c.args.k c.loop-i.i _ (map placed_of c.args.changes.now) (subst (λ (n : ℕ). n ≤ c.loop-i.i) (sym (length-map c.args.changes.now placed_of)) c.loop-i-test.false) c.loop-i.invariant)
