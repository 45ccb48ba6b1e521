use Rattle.std.proofs.Common.{rules, ◌≡◌, ◌<◌, false, length, sym, ◌∙◌, arith}
use Rattle.cx_scene.specs.Scene.{scene_of}
use Rattle.cx_replay.specs.Views.{runners_from, world_of}
use Rattle.cx_replay.proofs.Advancing.{length-runners, stands}
use Rattle.cx_replay.proofs.StillKnown.{makes_none, tried_known}
use Rattle.cx_replay.proofs.turning.try_step.Goals as goal

pub returns-in-Some-false-clause-made : goal.returns-in-Some-false-clause-made
returns-in-Some-false-clause-made c =
    let s = scene_of c.args.plan.now in
    let rs = c.args.runners.now.items in
    let low : c.args.t.0 < length (runners_from s 0 rs) = omega (arith, c.requires.number, length-runners s 0 rs) in
    let refused : c.in-Some-false.field-0 ≡ false = search rules in
    let says = rw (c.in-Some-false.is, c.deref.ensures.value, c.deref-2.ensures.value) at c.answer.ensures in
    makes_none s (world_of s c.args.objects.now.items rs) c.args.t.0 c.args.known.now low (λ n fs h. sym refused ∙ says n fs h) c.requires.known

pub returns-clause-known : goal.returns-clause-known
returns-clause-known c =
    let s = scene_of c.args.plan.now in
    let rs = c.args.runners.now.items in
    (c.note_tried.ensures.made, tried_known s c.args.objects.now.items c.step.new.objects.items rs c.step.new.runners.items c.args.t.0 c.index-runner.result.now c.step.new.forms.items c.in_ok-made.made c.note_tried.result c.requires.number (stands c.step.new.runners.items c.args.t.0 c.index-runner.result.now (omega (arith, c.requires.number, c.in_ok-made.ensures.same_number)) c.index-runner.ensures) c.in_ok-made.ensures.made c.in_ok-made.ensures.tried (rw (c.deref-3.ensures.value, c.deref-4.ensures.value) at c.note_tried.ensures.not_made))
