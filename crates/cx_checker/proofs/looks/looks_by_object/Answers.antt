use Rattle.std.proofs.Common.{map, drop, ◌∙◌, ap, ◌++◌, arith}
use Rattle.cx_history.specs.Views.{listed}
use Rattle.cx_checker.specs.Looks.{looks_at}
use Rattle.cx_checker.proofs.Looking.{look_list_more}
use Rattle.cx_checker.proofs.looks.looks_by_object.Goals as goal

pub loop-t-preserved : goal.loop-t-preserved
loop-t-preserved c = record {
  count = c.in_ok-put_items.ensures.count ∙ c.loop-t.invariant.count;
  each = λ q h.
      look_list_more q c.loop-t.t c.args.lists.now c.index-lists-t.result c.items-list.result.now (looks_at c.loop-t.by_object.items q) (looks_at c.put_items.new.by_object.items q) _
      c.loop-t-test.true c.index-lists-t.is c.items-list.ensures (c.loop-t.invariant.each q h) (c.in_ok-put_items.ensures.put q (omega (arith, h, c.loop-t.invariant.count)));
}
