use Rattle.std.proofs.Common.{rules, arith, sym, ◌∙◌, length, ◌≤◌, ◌≡◌, ℕ, ap, subst}
use Rattle.cx_history.specs.Histories.{place_from}
use Rattle.cx_history.specs.Views.{recorded_of}
use Rattle.cx_checker.proofs.Knowing.{ends_more, ends_all}
use Rattle.cx_checker.proofs.owing.ends.Goals as goal

pub loop-t-preserved : goal.loop-t-preserved
loop-t-preserved c = record {
  long = search rules;
  each = λ u o low.
      rw c.in_ok-push.ensures.items (ends_more (recorded_of c.args.record.now) c.loop-t.ends.items c.loop-t.t o c.in_ok-end.end (sym c.loop-t.invariant.long)
      (λ q. c.in_ok-end.ensures q ∙ ap (place_from q 0) c.list_at-list.ensures) (λ v below. c.loop-t.invariant.each v o below) u low);
}

pub returns : goal.returns
returns c =
    let end : length c.args.record.now.lists.items ≤ c.loop-t.t = search rules in
    ends_all c.args.record.now c.loop-t.ends.items c.loop-t.t end c.loop-t.invariant.long c.loop-t.invariant.each
