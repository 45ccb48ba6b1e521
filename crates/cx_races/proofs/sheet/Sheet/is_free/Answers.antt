use Rattle.std.proofs.Common.{◌+◌, ◌*◌, ℕ, subst, sym, ◌∙◌, true, arith}
use Rattle.cx_races.specs.Sheets.{class_of, AreFrom, AreBelow}
use Rattle.cx_races.proofs.Lanes.{none_over, none_at_end, one_lane_more, goes_on, still_from}
use Rattle.cx_races.proofs.sheet.Sheet.is_free.Goals as goal

pub returns-then-over : goal.returns-then-over
returns-then-over c = λ yes_ s r are.
    none_over s r c.args.self.now.accesses.items c.args.a c.at-x.result c.loop-place.place c.args.self.now.rising c.args.self.now.small c.loop-place.invariant.from c.at-x.ensures
    (sym c.is_over-over.ensures ∙ c.if-over.true) (c.loop-place.invariant.none s r are)

pub loop-place-preserved : goal.loop-place-preserved
loop-place-preserved c =
    let xs = c.args.self.now.accesses.items in
    let x = c.at-x.result in
    let low = subst (λ (m : ℕ). AreBelow xs c.below-place-in-loop-place.result ((m + 1) * 4294967296)) c.lane.ensures.value c.below-place-in-loop-place.ensures.low in
    let high = subst (λ (m : ℕ). AreFrom xs c.below-place-in-loop-place.result ((m + 1) * 4294967296)) c.lane.ensures.value c.below-place-in-loop-place.ensures.high in
    let on = goes_on xs x c.loop-place.place c.below-place-in-loop-place.result c.args.self.now.small c.at-x.ensures high in
    record {
      from = still_from xs c.loop-place.place c.below-place-in-loop-place.result (class_of c.args.a.var true * 18446744073709551616) (omega (arith, on)) c.loop-place.invariant.from;
      none = λ s r are. one_lane_more s r xs c.args.a x c.loop-place.place c.below-place-in-loop-place.result c.args.self.now.rising c.args.self.now.small c.at-x.ensures low (c.is_lane_free-free.ensures c.if-not-free.false s r are) (c.loop-place.invariant.none s r are);
    }

pub returns : goal.returns
returns c = λ yes_ s r are. none_at_end s r c.args.self.now.accesses.items c.args.a c.loop-place.place (omega (arith, c.loop-place-test.false, c.len.ensures)) (c.loop-place.invariant.none s r are)
