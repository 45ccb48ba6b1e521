use Rattle.std.proofs.Common.{◌≡◌, rules, ap, map, ◌++◌, ◌∙◌, refl, sym, length, Some, arith, ◌≤◌, List, [], Option}
use Rattle.std.specs.Prelude.{slice_get}
use Rattle.std.proofs.lemmas.Option.{slice_get-map}
use Rattle.cx_items.specs.declared.item.Item.{Item}
use Rattle.cx_history.specs.Views.{listed, recorded_of}
use Rattle.cx_history.specs.Histories.{items_of, list_of}
use Rattle.cx_graph.specs.Tally.{count_below}
use Rattle.cx_order.specs.Counts.{completes_in, completes_from}
use Rattle.cx_order.proofs.Walks.{walk_more, walk_done, list_there, length_lists}
use Rattle.cx_order.proofs.counting.completes.Goals as goal

pub loop-t-preserved : goal.loop-t-preserved
loop-t-preserved c =
    let ls = map listed c.args.record.now.lists.items in
    let t = list_there (recorded_of c.args.record.now) c.loop-t.t (omega (arith, length_lists c.args.record.now, c.loop-t-test.true)) in
    walk_more (λ (l : Option (List Item)). completes_in (items_of l)) completes_from (λ l rest. refl) ls c.loop-t.t t.0 c.loop-t.numbers.items c.put_completes.new.numbers.items (completes_from ls) t.1 c.loop-t.invariant (c.in_ok-put_completes.ensures ∙ ap (λ (ys : List Item). c.loop-t.numbers.items ++ completes_in ys) (c.list_at.ensures ∙ t.2))

pub returns : goal.returns
returns c =
    let ls = map listed c.args.record.now.lists.items in
    let same = walk_done (λ (l : Option (List Item)). completes_in (items_of l)) completes_from refl ls c.loop-t.t c.loop-t.numbers.items (completes_from ls) (omega (arith, length_lists c.args.record.now, c.loop-t-test.false)) c.loop-t.invariant in
    λ bound. c.in_ok-tally.ensures bound ∙ ap (count_below bound) same
