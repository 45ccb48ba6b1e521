use Rattle.std.proofs.Common.{◌≡◌, ◌∙◌, ◌+◌, ◌++◌, ℕ, List, Option, ap, sym, subst, drop, arith}
use Rattle.std.specs.Option.{option_to_list}
use Rattle.cx_scene.specs.Scene.{scene_of}
use Rattle.cx_history.specs.Views.{recorded_of}
use Rattle.cx_graph.specs.declared.give.Give.{Give}
use Rattle.cx_order.specs.Arcs.{gives_in}
use Rattle.cx_order.proofs.Nodes.{item_gives}
use Rattle.cx_order.proofs.gives.put_gives.Goals as goal

pub loop-i-preserved : goal.loop-i-preserved
loop-i-preserved c =
    let r = recorded_of c.args.record.now in
    let s = scene_of c.args.plan.now in
    let inv = c.loop-i.invariant in
    let total = c.args.gives.now.items ++ gives_in s r c.args.first c.args.list.now in
    let put = c.in_ok-put_give.ensures.put ∙ ap (λ (g : Option Give). c.loop-i.gives.items ++ option_to_list g) c.in_ok-give.ensures.value in
    let more = item_gives s r c.args.first c.loop-i.node c.loop-i.i c.args.list.now c.item_at-item.result c.loop-i.gives.items c.put_give.new.gives.items total c.item_at-item.ensures inv.put put in
    record {
      node = omega (arith, c.in_ok-node.ensures, inv.node);
      put = subst (λ (n : ℕ). c.put_give.new.gives.items ++ gives_in s r n (drop (c.loop-i.i + 1) c.args.list.now) ≡ total) (sym c.in_ok-node.ensures) more;
      small = c.in_ok-put_give.ensures.after;
    }
