use Rattle.std.proofs.Common.{◌≡◌, ◌∙◌, ◌<◌, ◌+◌, ℕ, suc, List, length, get_or, Option, Some, None, ap, subst, sym, refl, arith}
use Rattle.std.specs.Prelude.{slice_get}
use Rattle.std.proofs.lemmas.Option.{slice_get_read}
use Rattle.cx_items.specs.declared.item.Item.{Item}
use Rattle.cx_history.specs.Histories.{list_of}
use Rattle.cx_history.specs.Views.{recorded_of}
use Rattle.cx_order.specs.Arcs.{first_of}
use Rattle.cx_order.specs.Graphs.{FirstIn, IsFirstPast}
use Rattle.cx_order.proofs.Walks.{length_lists}
use Rattle.cx_order.proofs.Nodes.{first_read}
use Rattle.cx_order.proofs.Clocked.{none_of_more, first_is}
use Rattle.cx_order.proofs.clocks.first_cycle.Goals as goal

pub loop-t-preserved : goal.loop-t-preserved
loop-t-preserved c =
    let r = recorded_of c.args.parts.now.record.now in
    let low : c.loop-t.t < length r.lists = omega (arith, length_lists c.args.parts.now.record.now, c.loop-t-test.true) in
    let f = first_read r c.args.parts.now.firsts.now c.loop-t.t c.requires.parts.firsts (omega (arith, low)) in
    let l : length c.list_at.result.now ≡ length (list_of r c.loop-t.t) = ap (λ (ys : List Item). length ys) c.list_at.ensures in
    let there = slice_get_read c.args.clocks.now (length c.args.clocks.now) c.loop-t.t c.index-clocks-t.result refl (omega (arith, low, c.requires.count)) c.index-clocks-t.is in
    none_of_more r c.args.clocks.now c.loop-t.t (get_or c.args.parts.now.firsts.now c.loop-t.t 0) c.in_ok-count.count c.index-clocks-t.result there f (omega (arith, l, c.in_ok-count.ensures)) c.loop-t.invariant
    (subst (λ (o : Option ℕ). FirstIn c.index-clocks-t.result.values.items (get_or c.args.parts.now.firsts.now c.loop-t.t 0) c.in_ok-count.count o) c.in-None.is c.first_past-found.ensures)

pub returns-in-Some : goal.returns-in-Some
returns-in-Some c =
    let r = recorded_of c.args.parts.now.record.now in
    let low : c.loop-t.t < length r.lists = omega (arith, length_lists c.args.parts.now.record.now, c.loop-t-test.true) in
    let f = first_read r c.args.parts.now.firsts.now c.loop-t.t c.requires.parts.firsts (omega (arith, low)) in
    let l : length c.list_at.result.now ≡ length (list_of r c.loop-t.t) = ap (λ (ys : List Item). length ys) c.list_at.ensures in
    let there = slice_get_read c.args.clocks.now (length c.args.clocks.now) c.loop-t.t c.index-clocks-t.result refl (omega (arith, low, c.requires.count)) c.index-clocks-t.is in
    let first = c.in-Some.ensures in
    subst (λ (n : ℕ). IsFirstPast r c.args.clocks.now n c.in-Some.point) (sym c.in_ok-thread.ensures) (first_is r c.args.clocks.now c.loop-t.t (get_or c.args.parts.now.firsts.now c.loop-t.t 0) c.in_ok-count.count c.in-Some.point c.index-clocks-t.result there f (omega (arith, l, c.in_ok-count.ensures)) low c.loop-t.invariant first.0 first.1 first.2)

pub returns : goal.returns
returns c = λ u j low past. c.loop-t.invariant u j (omega (arith, low, length_lists c.args.parts.now.record.now, c.loop-t-test.false)) past
