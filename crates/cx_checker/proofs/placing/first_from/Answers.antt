use Rattle.std.proofs.Common.{map, sym, ◌∙◌, ap, arith, option_map, drop, subst, ℕ, ◌+◌, ◌-◌, ◌≡◌, slice_get, filter}
use Rattle.cx_history.specs.Histories.{in_order}
use Rattle.cx_checker.specs.Placing.{is_from}
use Rattle.cx_checker.specs.Views.{placed_of}
use Rattle.cx_checker.proofs.Placings.{first_joins, first_stays}
use Rattle.cx_checker.proofs.placing.first_from.Goals as goal

pub loop-i-preserved-then-from : goal.loop-i-preserved-then-from
loop-i-preserved-then-from c =
    let next : c.loop-i.i ≡ (c.loop-i.i - 1) + 1 = omega (arith, c.loop-i-test.true) in
    let so_far = subst (λ (n : ℕ). option_map placed_of c.loop-i.first ≡ slice_get (in_order (filter (is_from c.args.k) (drop n (map placed_of c.args.changes.now)))) 0) next c.loop-i.invariant.first in
    record {
      low = omega (arith, c.loop-i.invariant.low);
      first = first_joins c.args.k (c.loop-i.i - 1) (map placed_of c.args.changes.now) (placed_of c.change_at-change.result) (placed_of c.sooner.result) (option_map placed_of c.loop-i.first) c.change_at-change.ensures (sym c.is_from-from.ensures ∙ c.if-from.true) c.sooner.ensures so_far;
    }

pub loop-i-preserved : goal.loop-i-preserved
loop-i-preserved c =
    let next : c.loop-i.i ≡ (c.loop-i.i - 1) + 1 = omega (arith, c.loop-i-test.true) in
    let so_far = subst (λ (n : ℕ). option_map placed_of c.loop-i.first ≡ slice_get (in_order (filter (is_from c.args.k) (drop n (map placed_of c.args.changes.now)))) 0) next c.loop-i.invariant.first in
    record {
      low = omega (arith, c.loop-i.invariant.low);
      first = first_stays c.args.k (c.loop-i.i - 1) (map placed_of c.args.changes.now) (placed_of c.change_at-change.result) (option_map placed_of c.loop-i.first) c.change_at-change.ensures (sym c.is_from-from.ensures ∙ c.if-from.false) so_far;
    }
