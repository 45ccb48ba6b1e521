use Rattle.std.proofs.Common.{ℕ, List, sym, ap, ◌∙◌, subst}
use Rattle.cx_items.specs.declared.item.Item.{Item}
use Rattle.cx_history.specs.Views.{recorded_of}
use Rattle.cx_io.specs.Spawning.{Raised, RaisedAtLeast}
use Rattle.cx_work.specs.declared.objects.Objects.{Objects}
use Rattle.cx_work.specs.Bodies.{scene_in}
use Rattle.cx_work.specs.RunNow.{objects_of_all}
use Rattle.cx_run.specs.Runs.{tally, objects_at, KeepsTally, starts_in, refusals_in, steps_in}
use Rattle.cx_run.proofs.Joined.{none_out, first_out, all_joined}
use Rattle.cx_run.proofs.Righting.{from_ok, right_as}
use Rattle.cx_run.proofs.Stepped.{own_run, own_kept, kept_objects}
use Rattle.cx_run.proofs.Tallying.{tallied_first}
use Rattle.cx_run.proofs.scenario.run_on.Goals as goal

pub complete-requires-clause-run : goal.complete-requires-clause-run
complete-requires-clause-run g c κs within = own_run c.in_ok-run.run' c.in_ok-run.ensures.run

pub give_up-requires-clause-kept : goal.give_up-requires-clause-kept
give_up-requires-clause-kept g c κs within = own_kept c.complete.new.self c.complete.ensures.kept

pub into_record-requires-clause-run : goal.into_record-requires-clause-run
into_record-requires-clause-run g c κs within = own_run c.complete.new.self (from_ok c.complete.result c.is_err.result c.if-is_err.false c.is_err.ensures.value c.complete.ensures.run)

pub returns-clause-legal : goal.returns-clause-legal
returns-clause-legal g c =
    let new = c.complete.new.self in
    let before = c.in_ok-run.run' in
    let run = from_ok c.complete.result c.is_err.result c.if-is_err.false c.is_err.ensures.value c.complete.ensures.run in
    let is_scene = ap (λ (o : Objects). scene_in o) c.complete.ensures.objects ∙ c.in_ok-run.ensures.objects in
    let is_objects = kept_objects new run.kept ∙ kept_objects before c.in_ok-run.ensures.run.kept in
    let right = right_as (scene_in c.args.objects.now) (scene_in new.objects) (objects_of_all c.args.passes.threads.items) (objects_at new) (recorded_of c.in_ok-record.record) c.in_ok-record.accesses.items is_scene is_objects c.in_ok-record.ensures.right in
    right.legal

pub returns-clause-follows : goal.returns-clause-follows
returns-clause-follows g c =
    let new = c.complete.new.self in
    let before = c.in_ok-run.run' in
    let run = from_ok c.complete.result c.is_err.result c.if-is_err.false c.is_err.ensures.value c.complete.ensures.run in
    let is_scene = ap (λ (o : Objects). scene_in o) c.complete.ensures.objects ∙ c.in_ok-run.ensures.objects in
    let is_objects = kept_objects new run.kept ∙ kept_objects before c.in_ok-run.ensures.run.kept in
    let right = right_as (scene_in c.args.objects.now) (scene_in new.objects) (objects_of_all c.args.passes.threads.items) (objects_at new) (recorded_of c.in_ok-record.record) c.in_ok-record.accesses.items is_scene is_objects c.in_ok-record.ensures.right in
    right.follows

pub returns-clause-formed : goal.returns-clause-formed
returns-clause-formed g c =
    let new = c.complete.new.self in
    let before = c.in_ok-run.run' in
    let run = from_ok c.complete.result c.is_err.result c.if-is_err.false c.is_err.ensures.value c.complete.ensures.run in
    let is_scene = ap (λ (o : Objects). scene_in o) c.complete.ensures.objects ∙ c.in_ok-run.ensures.objects in
    let is_objects = kept_objects new run.kept ∙ kept_objects before c.in_ok-run.ensures.run.kept in
    let right = right_as (scene_in c.args.objects.now) (scene_in new.objects) (objects_of_all c.args.passes.threads.items) (objects_at new) (recorded_of c.in_ok-record.record) c.in_ok-record.accesses.items is_scene is_objects c.in_ok-record.ensures.right in
    right.formed

pub returns-clause-fronts : goal.returns-clause-fronts
returns-clause-fronts g c =
    let new = c.complete.new.self in
    let before = c.in_ok-run.run' in
    let run = from_ok c.complete.result c.is_err.result c.if-is_err.false c.is_err.ensures.value c.complete.ensures.run in
    let is_scene = ap (λ (o : Objects). scene_in o) c.complete.ensures.objects ∙ c.in_ok-run.ensures.objects in
    let is_objects = kept_objects new run.kept ∙ kept_objects before c.in_ok-run.ensures.run.kept in
    let right = right_as (scene_in c.args.objects.now) (scene_in new.objects) (objects_of_all c.args.passes.threads.items) (objects_at new) (recorded_of c.in_ok-record.record) c.in_ok-record.accesses.items is_scene is_objects c.in_ok-record.ensures.right in
    right.fronts

pub returns-clause-started : goal.returns-clause-started
returns-clause-started g c =
    let before = tally (g.P.Spawner.faults c.args.spawner.now) (g.P.Spawner.started c.args.spawner.now) (g.P.Spawner.carried c.args.spawner.now) in
    let now = tally (g.P.Spawner.faults c.complete.new.spawner) (g.P.Spawner.started c.complete.new.spawner) (g.P.Spawner.carried c.complete.new.spawner) in
    let keeps : KeepsTally c.in_ok-run.run' before c.complete.new.self now = from_ok c.complete.result c.is_err.result c.if-is_err.false c.is_err.ensures.value c.complete.ensures.tally in
    let all_ = keeps before (tallied_first before c.in_ok-run.run'.main.list.items (steps_in c.in_ok-run.run'.others.items) c.in_ok-run.ensures.list.0 c.in_ok-run.ensures.list.1) in
    subst (λ (l : List Item). Raised (g.P.Spawner.started c.args.spawner.now) (g.P.Spawner.started c.complete.new.spawner) (starts_in l)) (sym c.in_ok-record.ensures.list) all_.started

pub returns-clause-carried : goal.returns-clause-carried
returns-clause-carried g c =
    let before = tally (g.P.Spawner.faults c.args.spawner.now) (g.P.Spawner.started c.args.spawner.now) (g.P.Spawner.carried c.args.spawner.now) in
    let now = tally (g.P.Spawner.faults c.complete.new.spawner) (g.P.Spawner.started c.complete.new.spawner) (g.P.Spawner.carried c.complete.new.spawner) in
    let keeps : KeepsTally c.in_ok-run.run' before c.complete.new.self now = from_ok c.complete.result c.is_err.result c.if-is_err.false c.is_err.ensures.value c.complete.ensures.tally in
    let all_ = keeps before (tallied_first before c.in_ok-run.run'.main.list.items (steps_in c.in_ok-run.run'.others.items) c.in_ok-run.ensures.list.0 c.in_ok-run.ensures.list.1) in
    subst (λ (n : ℕ). Raised (g.P.Spawner.carried c.args.spawner.now) (g.P.Spawner.carried c.complete.new.spawner) n) (sym c.in_ok-record.ensures.steps) all_.carried

pub returns-clause-faults : goal.returns-clause-faults
returns-clause-faults g c =
    let before = tally (g.P.Spawner.faults c.args.spawner.now) (g.P.Spawner.started c.args.spawner.now) (g.P.Spawner.carried c.args.spawner.now) in
    let now = tally (g.P.Spawner.faults c.complete.new.spawner) (g.P.Spawner.started c.complete.new.spawner) (g.P.Spawner.carried c.complete.new.spawner) in
    let keeps : KeepsTally c.in_ok-run.run' before c.complete.new.self now = from_ok c.complete.result c.is_err.result c.if-is_err.false c.is_err.ensures.value c.complete.ensures.tally in
    let all_ = keeps before (tallied_first before c.in_ok-run.run'.main.list.items (steps_in c.in_ok-run.run'.others.items) c.in_ok-run.ensures.list.0 c.in_ok-run.ensures.list.1) in
    subst (λ (l : List Item). RaisedAtLeast (g.P.Spawner.faults c.args.spawner.now) (g.P.Spawner.faults c.complete.new.spawner) (refusals_in l)) (sym c.in_ok-record.ensures.list) all_.faults

pub complete-requires-clause-mains : goal.complete-requires-clause-mains
complete-requires-clause-mains g c κs within = c.in_ok-run.ensures.mains

pub returns-clause-joined : goal.returns-clause-joined
returns-clause-joined g c =
    let come = from_ok c.complete.result c.is_err.result c.if-is_err.false c.is_err.ensures.value c.complete.ensures.come in
    all_joined c.in_ok-run.run'.others.items c.complete.new.self.others.items _ _ _ _ c.in_ok-run.ensures.none_runs c.complete.ensures.out come

pub returns-in_err-record-clause-joined : goal.returns-in_err-record-clause-joined
returns-in_err-record-clause-joined g c =
    let come = from_ok c.complete.result c.is_err.result c.if-is_err.false c.is_err.ensures.value c.complete.ensures.come in
    all_joined c.in_ok-run.run'.others.items c.complete.new.self.others.items _ _ _ _ c.in_ok-run.ensures.none_runs c.complete.ensures.out come

pub returns-then-is_err-clause-joined : goal.returns-then-is_err-clause-joined
returns-then-is_err-clause-joined g c = c.give_up.ensures.joined _ _ (c.complete.ensures.out _ _ (first_out c.in_ok-run.run'.others.items _ _ c.in_ok-run.ensures.none_runs))

pub returns-in_err-run-clause-joined : goal.returns-in_err-run-clause-joined
returns-in_err-run-clause-joined g c = none_out _ _
