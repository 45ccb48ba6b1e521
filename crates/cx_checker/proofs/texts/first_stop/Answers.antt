use Rattle.std.proofs.Common.{ap, sym, ◌∙◌, slice_get}
use Rattle.cx_scene.specs.Scene.{scene_of}
use Rattle.cx_items.specs.Steps.{local_of}
use Rattle.cx_history.specs.Histories.{list_of}
use Rattle.cx_history.specs.Follows.{completes}
use Rattle.cx_history.specs.Views.{recorded_of}
use Rattle.cx_checker.proofs.Knowing.{list_found}
use Rattle.cx_checker.proofs.Marked.{due_is}
use Rattle.cx_checker.proofs.Stops.{goes_past, stops_here}
use Rattle.cx_checker.proofs.texts.first_stop.Goals as goal

pub returns-then-not-made : goal.returns-then-not-made
returns-then-not-made c =
    let q = list_found c.args.record.now c.args.t c.requires.low in
    let at_ = (ap (λ xs. slice_get xs c.loop-i.i) (sym c.list_at-list.ensures) ∙ c.item_at-item.ensures) in
    let due = c.due-completing.ensures ∙ due_is (scene_of c.args.plan.now) (recorded_of c.args.record.now) c.args.marks.now c.args.t c.loop-i.i q.0 c.item_at-item.result c.requires.marks q.1 (ap (λ xs. slice_get xs c.loop-i.i) (sym q.2) ∙ at_) in
    stops_here (scene_of c.args.plan.now) (completes (scene_of c.args.plan.now) (recorded_of c.args.record.now)) c.args.t c.loop-i.i (local_of (scene_of c.args.plan.now) c.args.t c.loop-i.local) (local_of (scene_of c.args.plan.now) c.args.t c.after_item.new.self) (list_of (recorded_of c.args.record.now) c.args.t) c.item_at-item.result c.due-completing.result c.in_ok-made.made _ at_ due c.in_ok-made.ensures c.if-not-made.true c.loop-i.invariant

pub loop-i-preserved : goal.loop-i-preserved
loop-i-preserved c =
    let q = list_found c.args.record.now c.args.t c.requires.low in
    let at_ = (ap (λ xs. slice_get xs c.loop-i.i) (sym c.list_at-list.ensures) ∙ c.item_at-item.ensures) in
    let due = c.due-completing.ensures ∙ due_is (scene_of c.args.plan.now) (recorded_of c.args.record.now) c.args.marks.now c.args.t c.loop-i.i q.0 c.item_at-item.result c.requires.marks q.1 (ap (λ xs. slice_get xs c.loop-i.i) (sym q.2) ∙ at_) in
    goes_past (scene_of c.args.plan.now) (completes (scene_of c.args.plan.now) (recorded_of c.args.record.now)) c.args.t c.loop-i.i (local_of (scene_of c.args.plan.now) c.args.t c.loop-i.local) (local_of (scene_of c.args.plan.now) c.args.t c.after_item.new.self) (list_of (recorded_of c.args.record.now) c.args.t) c.item_at-item.result c.due-completing.result c.in_ok-made.made _ at_ due c.in_ok-made.ensures c.if-not-made.false c.loop-i.invariant
