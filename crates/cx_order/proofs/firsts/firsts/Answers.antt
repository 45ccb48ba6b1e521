use Rattle.std.proofs.Common.{◌≡◌, ◌∙◌, ◌+◌, ℕ, List, ap, length, suc, arith, length-append, ◌∷◌, []}
use Rattle.cx_items.specs.declared.item.Item.{Item}
use Rattle.cx_history.specs.Histories.{list_of}
use Rattle.cx_history.specs.Views.{recorded_of}
use Rattle.cx_order.proofs.Walks.{length_lists}
use Rattle.cx_order.proofs.Nodes.{first_more, one_first_more}
use Rattle.cx_order.proofs.firsts.firsts.Goals as goal

pub loop-t-preserved : goal.loop-t-preserved
loop-t-preserved c =
    let r = recorded_of c.args.record.now in
    let inv = c.loop-t.invariant in
    let m = first_more r c.loop-t.t (omega (arith, length_lists c.args.record.now, c.loop-t-test.true)) in
    let l : length c.list_at.result.now ≡ length (list_of r c.loop-t.t) = ap (λ (ys : List Item). length ys) c.list_at.ensures in
    record {
      count = ap length c.in_ok-push.ensures.items ∙ (length-append c.loop-t.firsts.items (c.loop-t.node ∷ []) ∙ omega (arith, inv.count));
      each = one_first_more r c.loop-t.firsts.items c.push.new.self.items c.loop-t.t c.loop-t.node inv.count inv.each inv.next c.in_ok-push.ensures.items;
      next = omega (arith, c.in_ok-node.ensures, c.in_ok-count.ensures, inv.next, m, l);
    }

pub returns : goal.returns
returns c =
    let r = recorded_of c.args.record.now in
    let inv = c.loop-t.invariant in
    let end : c.loop-t.t ≡ length r.lists = omega (arith, length_lists c.args.record.now, c.loop-t-test.false, c.loop-t.auto.t-end) in
    record {
      count = ap length c.in_ok-push-2.ensures.items ∙ (length-append c.loop-t.firsts.items (c.loop-t.node ∷ []) ∙ omega (arith, inv.count, end));
      each = λ t low. one_first_more r c.loop-t.firsts.items c.push-2.new.self.items c.loop-t.t c.loop-t.node inv.count inv.each inv.next c.in_ok-push-2.ensures.items t (omega (arith, low, end));
    }
