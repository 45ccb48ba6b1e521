use Rattle.std.proofs.Common.{rules, ap, sym, ◌∙◌, ◌+◌, ◌<◌, ◌≤◌, ℕ, length, drop, None}
use Rattle.cx_scene.specs.Scene.{scene_of}
use Rattle.cx_history.specs.declared.flaw.Cause.TheVariants as causes
use Rattle.cx_history.specs.Legal.{is_shown}
use Rattle.cx_history.specs.Flaw.{first_in}
use Rattle.cx_history.specs.Views.{recorded_of}
use Rattle.cx_checker.specs.Looks.{looks_from}
use Rattle.cx_checker.proofs.Firsts.{good_lists}
use Rattle.cx_checker.proofs.Knowing.{list_found, good_list_at, bad_list_at}
use Rattle.cx_checker.proofs.Telling.{lists_tell}
use Rattle.cx_checker.proofs.verdicts.first_unshown.Goals as goal

pub returns-in-Some : goal.returns-in-Some
returns-in-Some c =
    let low : c.loop-t.t < length c.args.record.now.lists.items = search rules in
    let q = list_found c.args.record.now c.loop-t.t low in
    let rest = λ (o : ℕ). looks_from o (drop (c.loop-t.t + 1) (recorded_of c.args.record.now).lists) in
    let tell = lists_tell (scene_of c.args.plan.now) (recorded_of c.args.record.now) c.loop-t.all.items c.loop-t.t (recorded_of c.args.record.now).lists q.0 c.list_at-list.result.now q.1 (c.list_at-list.ensures ∙ q.2) c.loop-t.invariant.tell in
    let first = c.in_ok-found.ensures.first rest tell in
    let is = ap (first_in causes.Shown (λ t i x. is_shown (scene_of c.args.plan.now) (recorded_of c.args.record.now) x) c.loop-t.t 0) (sym c.list_at-list.ensures) ∙ (ap (λ n. first_in causes.Shown (λ t i x. is_shown (scene_of c.args.plan.now) (recorded_of c.args.record.now) x) n 0 c.list_at-list.result.now) (sym c.in_ok-n.ensures) ∙ sym first) in
    bad_list_at causes.Shown (λ t i x. is_shown (scene_of c.args.plan.now) (recorded_of c.args.record.now) x) c.loop-t.t c.args.record.now _ c.in-Some.flaw low (is ∙ c.in-Some.is) c.loop-t.invariant.same

pub loop-t-preserved : goal.loop-t-preserved
loop-t-preserved c =
    let low : c.loop-t.t < length c.args.record.now.lists.items = search rules in
    let q = list_found c.args.record.now c.loop-t.t low in
    let rest = λ (o : ℕ). looks_from o (drop (c.loop-t.t + 1) (recorded_of c.args.record.now).lists) in
    let tell = lists_tell (scene_of c.args.plan.now) (recorded_of c.args.record.now) c.loop-t.all.items c.loop-t.t (recorded_of c.args.record.now).lists q.0 c.list_at-list.result.now q.1 (c.list_at-list.ensures ∙ q.2) c.loop-t.invariant.tell in
    let first = c.in_ok-found.ensures.first rest tell in
    let is = ap (first_in causes.Shown (λ t i x. is_shown (scene_of c.args.plan.now) (recorded_of c.args.record.now) x) c.loop-t.t 0) (sym c.list_at-list.ensures) ∙ (ap (λ n. first_in causes.Shown (λ t i x. is_shown (scene_of c.args.plan.now) (recorded_of c.args.record.now) x) n 0 c.list_at-list.result.now) (sym c.in_ok-n.ensures) ∙ sym first) in
    record {
      count = c.in_ok-found.ensures.count ∙ c.loop-t.invariant.count;
      tell = c.in_ok-found.ensures.rest rest tell c.in-None.is;
      same = good_list_at causes.Shown (λ t i x. is_shown (scene_of c.args.plan.now) (recorded_of c.args.record.now) x) c.loop-t.t c.args.record.now _ low (is ∙ c.in-None.is) c.loop-t.invariant.same;
    }

pub returns : goal.returns
returns c =
    let end : length c.args.record.now.lists.items ≤ c.loop-t.t = search rules in
    good_lists causes.Shown (λ t i x. is_shown (scene_of c.args.plan.now) (recorded_of c.args.record.now) x) c.loop-t.t c.args.record.now _ end c.loop-t.invariant.same
