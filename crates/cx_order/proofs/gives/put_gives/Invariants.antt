use Rattle.std.proofs.Common.{◌≡◌, ◌++◌, ◌+◌, drop}
use Rattle.cx_scene.specs.Scene.{scene_of}
use Rattle.cx_history.specs.Views.{recorded_of}
use Rattle.cx_order.specs.Arcs.{gives_in}
use Rattle.cx_order.specs.Gives.{AreSmall}
use Rattle.cx_order.proofs.gives.put_gives.Given as goal

abbrev pub invariant-loop-i : goal.invariant-loop-i
invariant-loop-i l = record {
  node : l.node ≡ l.fn.first + l.i;
  put : l.gives.items ++ gives_in (scene_of l.plan) (recorded_of l.record) l.node (drop l.i l.list) ≡ l.fn.gives.items ++ gives_in (scene_of l.plan) (recorded_of l.record) l.fn.first l.list;
  small : AreSmall l.gives.items;
}
