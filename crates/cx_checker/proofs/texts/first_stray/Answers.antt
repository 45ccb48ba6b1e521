use Rattle.std.proofs.Common.{rules, ap, sym, ◌∙◌, slice_get, length, ◌<◌}
use Rattle.cx_scene.specs.Scene.{scene_of}
use Rattle.cx_history.specs.Flaw.{text_flaw}
use Rattle.cx_history.specs.Views.{recorded_of}
use Rattle.cx_checker.proofs.Knowing.{list_found}
use Rattle.cx_checker.proofs.Stops.{thread_good, thread_bad}
use Rattle.cx_checker.proofs.texts.first_stray.Goals as goal

pub returns-in-Some : goal.returns-in-Some
returns-in-Some c =
    let low : c.loop-t.t < length c.args.record.now.lists.items = search rules in
    let q = list_found c.args.record.now c.loop-t.t low in
    let text = c.in_ok-found.ensures q.0 (ap (slice_get (recorded_of c.args.record.now).lists) c.in_ok-n.ensures ∙ q.1) ∙ ap (λ m. text_flaw (scene_of c.args.plan.now) (recorded_of c.args.record.now) m q.0) c.in_ok-n.ensures in
    thread_bad (scene_of c.args.plan.now) (recorded_of c.args.record.now) c.loop-t.t (recorded_of c.args.record.now).lists q.0 _ c.in-Some.flaw q.1 (sym c.in-Some.is ∙ text) c.loop-t.invariant

pub loop-t-preserved : goal.loop-t-preserved
loop-t-preserved c =
    let low : c.loop-t.t < length c.args.record.now.lists.items = search rules in
    let q = list_found c.args.record.now c.loop-t.t low in
    let text = c.in_ok-found.ensures q.0 (ap (slice_get (recorded_of c.args.record.now).lists) c.in_ok-n.ensures ∙ q.1) ∙ ap (λ m. text_flaw (scene_of c.args.plan.now) (recorded_of c.args.record.now) m q.0) c.in_ok-n.ensures in
    thread_good (scene_of c.args.plan.now) (recorded_of c.args.record.now) c.loop-t.t (recorded_of c.args.record.now).lists q.0 _ q.1 (sym c.in-None.is ∙ text) c.loop-t.invariant
