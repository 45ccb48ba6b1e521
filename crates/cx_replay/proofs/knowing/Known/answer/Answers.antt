use Rattle.std.proofs.Common.{subst}
use Rattle.cx_scene.specs.Scene.{scene_of}
use Rattle.cx_replay.specs.declared.knowing.Known.{Known}
use Rattle.cx_replay.specs.Knowing.{Holds}
use Rattle.cx_replay.specs.Views.{thing_of, world_of}
use Rattle.cx_replay.proofs.Trying.{found, something_there}
use Rattle.cx_replay.proofs.StillKnown.{answers_while, answers_awaits, answers_acquires, answers_over}
use Rattle.cx_replay.proofs.knowing.Known.answer.Goals as goal

pub returns-then-object-changes : goal.returns-then-object-changes
returns-then-object-changes c = λ t fs h.
    let s = scene_of c.args.plan.now in
    let w = world_of s c.args.objects.now c.args.runners.now in
    let there = found c.args.objects.now c.in-While.o.0 c.in-Some.object.now c.in-Some.ensures.lookup.0 c.in-Some.ensures.lookup.1 in
    answers_while s w t c.in-While.o c.in-While.changes c.in-While.can (thing_of c.in-Some.object.now) (something_there c.args.objects.now c.in-While.o.0 c.in-Some.object.now there) c.if-object-changes.true fs (subst (λ (k : Known). Holds s w t fs k) c.in-While.is h)

pub returns-in-Awaits : goal.returns-in-Awaits
returns-in-Awaits c = λ t fs h.
    let s = scene_of c.args.plan.now in
    let w = world_of s c.args.objects.now c.args.runners.now in
    answers_awaits s w t c.in-Awaits.u c.can_do.result c.can_do.ensures fs (subst (λ (k : Known). Holds s w t fs k) c.in-Awaits.is h)

pub returns-in-Acquires : goal.returns-in-Acquires
returns-in-Acquires c = λ t fs h.
    let s = scene_of c.args.plan.now in
    let w = world_of s c.args.objects.now c.args.runners.now in
    answers_acquires s w t c.in-Acquires.o c.is_free.result c.is_free.ensures fs (subst (λ (k : Known). Holds s w t fs k) c.in-Acquires.is h)

pub returns-in-Over : goal.returns-in-Over
returns-in-Over c = λ t fs h.
    let s = scene_of c.args.plan.now in
    let w = world_of s c.args.objects.now c.args.runners.now in
    answers_over s w t fs (subst (λ (k : Known). Holds s w t fs k) c.in-Over.is h)
