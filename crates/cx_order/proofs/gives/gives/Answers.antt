use Rattle.std.proofs.Common.{◌≡◌, ◌∙◌, ◌+◌, ◌++◌, ℕ, List, ap, length, Some, get_or, suc, ◌<◌, arith}
use Rattle.cx_items.specs.declared.item.Item.{Item}
use Rattle.cx_scene.specs.Scene.{scene_of}
use Rattle.cx_history.specs.Histories.{list_of}
use Rattle.cx_history.specs.Views.{recorded_of}
use Rattle.cx_order.specs.Arcs.{first_of, gives_in, gives_from}
use Rattle.cx_order.proofs.Walks.{length_lists}
use Rattle.cx_order.proofs.Nodes.{list_gives, first_read}
use Rattle.cx_order.proofs.gives.gives.Goals as goal

pub loop-t-preserved : goal.loop-t-preserved
loop-t-preserved c =
    let r = recorded_of c.args.record.now in
    let s = scene_of c.args.plan.now in
    let low : c.loop-t.t < length r.lists = omega (arith, length_lists c.args.record.now, c.loop-t-test.true) in
    let total = gives_from s r 0 r.lists in
    let first : get_or c.args.firsts.now c.loop-t.t 0 ≡ first_of r c.loop-t.t = first_read r c.args.firsts.now c.loop-t.t c.requires.firsts (omega (arith, low)) in
    record {
      put = list_gives s r c.loop-t.t c.loop-t.gives.items c.put_gives.new.gives.items total low c.loop-t.invariant.put (c.in_ok-put_gives.ensures.put ∙ (ap (λ n. c.loop-t.gives.items ++ gives_in s r n c.list_at.result.now) first ∙ ap (λ (ys : List Item). c.loop-t.gives.items ++ gives_in s r (first_of r c.loop-t.t) ys) c.list_at.ensures));
      small = c.in_ok-put_gives.ensures.after;
    }
