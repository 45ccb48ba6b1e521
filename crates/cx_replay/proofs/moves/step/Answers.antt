use Rattle.std.proofs.Common.{◌≡◌, map, subst}
use Rattle.std.specs.Option.{option_map}
use Rattle.cx_scene.specs.Scene.{scene_of}
use Rattle.cx_replay.specs.Views.{thing_of, runner_of, world_of, forms_there}
use Rattle.cx_replay.proofs.Advancing.{stands, same_there, may_go_on, step_made, step_not_made, tried_there}
use Rattle.cx_replay.proofs.moves.step.Goals as goal

pub advance-requires : goal.advance-requires
advance-requires c =
    let s = scene_of c.args.plan.now in
    let rs = c.args.runners.now.items in
    let t = c.args.t.0 in
    let old = c.index_mut.result.now in
    let offered : c.offer.new.forms.items ≡ forms_there s t (option_map (runner_of s t) old) =
    subst (λ r. c.offer.new.forms.items ≡ forms_there s t (option_map (runner_of s t) r)) (same_there rs t c.index.result.now old c.requires.number c.index.ensures c.index_mut.ensures.value) c.in_ok-offer.ensures in
    may_go_on s (world_of s c.args.objects.now.items rs) t (option_map (runner_of s t) old) c.offer.new.forms.items (record { item = c.in-Some.item; things = map thing_of c.make_first.new.objects.items }) offered (rw (c.in-Some.is, c.deref.ensures.value, c.deref-2.ensures.value) at c.in_ok-made.ensures)

pub returns-in_ok-begin_started-in-Some-clause-made : goal.returns-in_ok-begin_started-in-Some-clause-made
returns-in_ok-begin_started-in-Some-clause-made c =
    let s = scene_of c.args.plan.now in
    let rs = c.args.runners.now.items in
    let t = c.args.t.0 in
    let old = c.index_mut.result.now in
    let offered : c.offer.new.forms.items ≡ forms_there s t (option_map (runner_of s t) old) =
    subst (λ r. c.offer.new.forms.items ≡ forms_there s t (option_map (runner_of s t) r)) (same_there rs t c.index.result.now old c.requires.number c.index.ensures c.index_mut.ensures.value) c.in_ok-offer.ensures in
    step_made s c.args.objects.now.items c.make_first.new.objects.items rs c.begin_started.new.runners.items t old c.advance.new.runner c.offer.new.forms.items c.in-Some.item (stands rs t old c.requires.number c.index_mut.ensures.value) offered (rw (c.in-Some.is, c.deref.ensures.value, c.deref-2.ensures.value) at c.in_ok-made.ensures) (rw c.deref-in-Some.ensures.value at c.in_ok-advance-in-Some.ensures) c.in_ok-begin_started-in-Some.ensures.begun

pub returns-in-None-clause-made : goal.returns-in-None-clause-made
returns-in-None-clause-made c =
    let s = scene_of c.args.plan.now in
    let rs = c.args.runners.now.items in
    let t = c.args.t.0 in
    step_not_made s c.args.objects.now.items c.make_first.new.objects.items rs t c.index.result.now c.offer.new.forms.items (stands rs t c.index.result.now c.requires.number c.index.ensures) c.in_ok-offer.ensures (rw (c.in-None.is, c.deref.ensures.value, c.deref-2.ensures.value) at c.in_ok-made.ensures)

pub returns-in-None-clause-tried : goal.returns-in-None-clause-tried
returns-in-None-clause-tried c = λ not_made r h. tried_there (scene_of c.args.plan.now) c.args.runners.now.items c.args.t.0 c.index.result.now c.offer.new.forms.items (stands c.args.runners.now.items c.args.t.0 c.index.result.now c.requires.number c.index.ensures) c.in_ok-offer.ensures r h
