use Rattle.std.proofs.Common.{◌<◌, ◌≤◌, length, refl, arith}
use Rattle.cx_scene.specs.Scene.{scene_of}
use Rattle.cx_replay.specs.Views.{runners_from, world_of}
use Rattle.cx_replay.proofs.Advancing.{length-runners}
use Rattle.cx_replay.proofs.Drawing.{enabled_more, all_enabled}
use Rattle.cx_replay.proofs.StillKnown.{known_length, known_here, known_anew}
use Rattle.cx_replay.proofs.turning.put_enabled.Goals as goal

pub loop-i-init : goal.loop-i-init
loop-i-init c = record { known = c.requires; latest = tt; enabled = rw c.clear.ensures.items refl }

pub index_mut-requires : goal.index_mut-requires
index_mut-requires c =
    let s = scene_of c.args.plan.now in
    omega (arith, known_length s c.args.objects.now c.args.runners.now c.loop-i.known.items c.loop-i.invariant.known, c.loop-i-test.true)

pub push_enabled-requires : goal.push_enabled-requires
push_enabled-requires c =
    let s = scene_of c.args.plan.now in
    let low = known_length s c.args.objects.now c.args.runners.now c.loop-i.known.items c.loop-i.invariant.known in
    record {
      number = omega (arith, c.in_ok-t.ensures, c.loop-i-test.true);
      latest = c.loop-i.invariant.latest;
      known = rw c.in_ok-t.ensures (known_here s (world_of s c.args.objects.now c.args.runners.now) c.loop-i.known.items c.loop-i.i c.index_mut.result.now c.loop-i.invariant.known (omega (arith, low, c.loop-i-test.true)) c.index_mut.ensures.value);
    }

pub loop-i-preserved : goal.loop-i-preserved
loop-i-preserved c =
    let s = scene_of c.args.plan.now in
    let rs = c.args.runners.now in
    let low : c.loop-i.i < length (runners_from s 0 rs) = omega (arith, c.loop-i-test.true, length-runners s 0 rs) in
    record {
      known = known_anew s (world_of s c.args.objects.now rs) c.loop-i.i c.loop-i.known.items c.push_enabled.new.known c.loop-i.invariant.known (rw c.in_ok-t.ensures at c.in_ok-push_enabled.ensures.known);
      latest = c.push_enabled.ensures.latest;
      enabled = enabled_more s (world_of s c.args.objects.now rs) c.loop-i.i c.in_ok-t.t c.loop-i.enabled.items c.push_enabled.new.enabled.items low c.in_ok-t.ensures c.in_ok-push_enabled.ensures.pushed c.loop-i.invariant.enabled;
    }

pub returns-clause-enabled : goal.returns-clause-enabled
returns-clause-enabled c =
    let s = scene_of c.args.plan.now in
    let rs = c.args.runners.now in
    let past : length (runners_from s 0 rs) ≤ c.loop-i.i = omega (arith, c.loop-i-test.false, length-runners s 0 rs) in
    all_enabled s (world_of s c.args.objects.now rs) c.loop-i.i c.loop-i.enabled.items past c.loop-i.invariant.enabled
