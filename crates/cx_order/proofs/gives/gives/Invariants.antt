use Rattle.std.proofs.Common.{◌≡◌, ◌++◌, drop}
use Rattle.cx_scene.specs.Scene.{scene_of}
use Rattle.cx_history.specs.Views.{recorded_of}
use Rattle.cx_order.specs.Arcs.{gives_from, first_of}
use Rattle.cx_order.specs.Gives.{AreSmall}
use Rattle.cx_order.proofs.gives.gives.Given as goal

abbrev pub invariant-loop-t : goal.invariant-loop-t
invariant-loop-t l = record {
  put : l.gives.items ++ gives_from (scene_of l.plan) (recorded_of l.record) (first_of (recorded_of l.record) l.t) (drop l.t (recorded_of l.record).lists) ≡ gives_from (scene_of l.plan) (recorded_of l.record) 0 (recorded_of l.record).lists;
  small : AreSmall l.gives.items;
}
