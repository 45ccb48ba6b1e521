use Rattle.std.proofs.Common.{map, drop, ◌∙◌, ap, ◌++◌, arith}
use Rattle.std.proofs.lemmas.Option.{slice_get_read}
use Rattle.cx_history.specs.Histories.{changes_in, changes_from}
use Rattle.cx_history.specs.Views.{listed}
use Rattle.cx_checker.specs.Views.{changes_at}
use Rattle.cx_checker.proofs.Gathering.{list_more_at}
use Rattle.cx_checker.proofs.by_object.changes_by_object.Goals as goal

pub loop-t-preserved : goal.loop-t-preserved
loop-t-preserved c = record {
  count = c.in_ok-put_items.ensures.count ∙ c.loop-t.invariant.count;
  each = λ q h.
      list_more_at q c.loop-t.t c.args.lists.now c.index-lists-t.result c.in_ok-n.n c.items-list.result.now (changes_at c.loop-t.by_object.items q) (changes_at c.put_items.new.by_object.items q) _
      c.loop-t-test.true c.index-lists-t.is c.in_ok-n.ensures c.items-list.ensures (c.loop-t.invariant.each q h) (c.in_ok-put_items.ensures.put q (omega (arith, h, c.loop-t.invariant.count)));
}
