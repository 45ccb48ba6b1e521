use Rattle.std.proofs.Common.{arith, ◌∙◌, subst, sym, ℕ, ◌<◌}
use Rattle.cx_history.specs.Views.{recorded_of}
use Rattle.cx_checker.specs.Marks.{marked}
use Rattle.cx_checker.proofs.Marked.{started_more}
use Rattle.cx_checker.proofs.marking.started.Goals as goal

pub loop-i-preserved : goal.loop-i-preserved
loop-i-preserved c = record {
  long = c.set_started.ensures.count ∙ c.loop-i.invariant.long;
  each = λ t low.
      let low_old = subst (λ (n : ℕ). t < n) c.set_started.ensures.count low in
      started_more (recorded_of c.args.record.now) t c.loop-i.i c.list_at-list.result.now c.item_at-item.result (marked c.loop-i.flags.items t) (marked c.set_started.new.flags.items t) c.item_at-item.ensures (c.set_started.ensures.set t low_old) (c.loop-i.invariant.each t low_old);
}
