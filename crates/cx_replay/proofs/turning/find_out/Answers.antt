use Rattle.std.proofs.Common.{◌<◌, length, subst, arith}
use Rattle.cx_scene.specs.Scene.{scene_of}
use Rattle.cx_replay.specs.Views.{runners_from, world_of}
use Rattle.cx_replay.proofs.Advancing.{length-runners, stands}
use Rattle.cx_replay.specs.declared.knowing.Known.{Known}
use Rattle.cx_replay.specs.Knowing.{Holds}
use Rattle.cx_replay.proofs.StillKnown.{enabled_by, found_known, answers_acquires}
use Rattle.cx_replay.proofs.turning.find_out.Goals as goal

pub returns-in-Acquires-clause-enabled : goal.returns-in-Acquires-clause-enabled
returns-in-Acquires-clause-enabled c =
    let s = scene_of c.args.plan.now in
    let rs = c.args.runners.now in
    let w = world_of s c.args.objects.now rs in
    let low : c.args.t.0 < length (runners_from s 0 rs) = omega (arith, c.requires.number, length-runners s 0 rs) in
    enabled_by s w c.args.t.0 c.args.known.now c.is_free_by.result low (λ n fs h. answers_acquires s w n c.in-Acquires.o c.is_free_by.result c.is_free_by.ensures.free fs (subst (λ (k : Known). Holds s w n fs k) c.in-Acquires.is h)) c.requires.known

pub returns-in-Some-clause-enabled : goal.returns-in-Some-clause-enabled
returns-in-Some-clause-enabled c =
    let s = scene_of c.args.plan.now in
    let rs = c.args.runners.now in
    let low : c.args.t.0 < length (runners_from s 0 rs) = omega (arith, c.requires.number, length-runners s 0 rs) in
    enabled_by s (world_of s c.args.objects.now rs) c.args.t.0 c.args.known.now c.in-Some.enabled low (rw c.in-Some.is at c.answer.ensures) c.requires.known

pub returns-clause-known : goal.returns-clause-known
returns-clause-known c =
    let s = scene_of c.args.plan.now in
    let rs = c.args.runners.now in
    found_known s c.args.objects.now rs c.args.t.0 c.index-runners-t.result c.is_enabled.new.forms.items c.in_ok-enabled.enabled c.note.result (stands rs c.args.t.0 c.index-runners-t.result c.requires.number c.index-runners-t.is) c.in_ok-enabled.ensures.tried c.in_ok-enabled.ensures.enabled (rw c.deref.ensures.value at c.note.ensures)
