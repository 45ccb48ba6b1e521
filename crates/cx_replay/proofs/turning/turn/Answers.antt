use Rattle.std.proofs.Common.{◌<◌, ◌≤◌, length, ◌∙◌, refl, sym, subst, arith}
use Rattle.cx_scene.specs.Scene.{scene_of}
use Rattle.cx_replay.specs.Schedule.{World}
use Rattle.cx_replay.specs.Views.{runners_from, world_of, HasRoom}
use Rattle.cx_replay.proofs.Advancing.{length-runners, turn_made, turn_later, no_turn}
use Rattle.cx_replay.proofs.StillKnown.{known_length, known_here, tried_all}
use Rattle.cx_replay.proofs.turning.turn.Goals as goal

pub loop-i-init : goal.loop-i-init
loop-i-init c = record { same = refl; number = refl; known = c.requires.known; later = refl }

pub index_mut-requires : goal.index_mut-requires
index_mut-requires c =
    let s = scene_of c.args.plan.now in
    omega (arith, known_length s c.loop-i.objects.items c.loop-i.runners.items c.loop-i.known.items c.loop-i.invariant.known, c.loop-i.invariant.number, c.loop-i-test.true)

pub try_step-requires : goal.try_step-requires
try_step-requires c =
    let s = scene_of c.args.plan.now in
    let low = known_length s c.loop-i.objects.items c.loop-i.runners.items c.loop-i.known.items c.loop-i.invariant.known in
    record {
      number = omega (arith, c.in_ok-t.ensures, c.loop-i.invariant.number, c.loop-i-test.true);
      room = subst (λ (w : World). HasRoom w.things) (sym c.loop-i.invariant.same) c.requires.room;
      known = rw c.in_ok-t.ensures (known_here s (world_of s c.loop-i.objects.items c.loop-i.runners.items) c.loop-i.known.items c.loop-i.i c.index_mut.result.now c.loop-i.invariant.known (omega (arith, low, c.loop-i.invariant.number, c.loop-i-test.true)) c.index_mut.ensures.value);
    }

pub returns-then-made-clause-made : goal.returns-then-made-clause-made
returns-then-made-clause-made c =
    let s = scene_of c.args.plan.now in
    let rs = c.args.runners.now.items in
    let low : c.loop-i.i < length (runners_from s 0 rs) = omega (arith, c.loop-i-test.true, length-runners s 0 rs) in
    turn_made s (world_of s c.args.objects.now.items rs) (world_of s c.try_step.new.objects.items c.try_step.new.runners.items) (world_of s c.loop-i.objects.items c.loop-i.runners.items) c.loop-i.i c.in_ok-made.made low c.loop-i.invariant.same c.if-made.true (rw c.in_ok-t.ensures at c.in_ok-made.ensures.made) c.loop-i.invariant.later

pub returns-then-made-clause-known : goal.returns-then-made-clause-known
returns-then-made-clause-known c =
    let s = scene_of c.args.plan.now in
    tried_all s c.loop-i.objects.items c.try_step.new.objects.items c.loop-i.runners.items c.try_step.new.runners.items c.loop-i.i c.loop-i.known.items c.in_ok-made.made c.try_step.new.known (rw c.in_ok-t.ensures at c.in_ok-made.ensures.made) c.in_ok-made.ensures.same_number c.loop-i.invariant.known (rw c.in_ok-t.ensures at c.in_ok-made.ensures.known)

pub loop-i-preserved : goal.loop-i-preserved
loop-i-preserved c =
    let s = scene_of c.args.plan.now in
    let rs = c.args.runners.now.items in
    let low : c.loop-i.i < length (runners_from s 0 rs) = omega (arith, c.loop-i-test.true, length-runners s 0 rs) in
    let l = turn_later s (world_of s c.args.objects.now.items rs) (world_of s c.try_step.new.objects.items c.try_step.new.runners.items) (world_of s c.loop-i.objects.items c.loop-i.runners.items) c.loop-i.i c.in_ok-made.made low c.loop-i.invariant.same c.if-made.false (rw c.in_ok-t.ensures at c.in_ok-made.ensures.made) c.loop-i.invariant.later in
    record {
      same = l.0;
      number = c.in_ok-made.ensures.same_number ∙ c.loop-i.invariant.number;
      known = tried_all s c.loop-i.objects.items c.try_step.new.objects.items c.loop-i.runners.items c.try_step.new.runners.items c.loop-i.i c.loop-i.known.items c.in_ok-made.made c.try_step.new.known (rw c.in_ok-t.ensures at c.in_ok-made.ensures.made) c.in_ok-made.ensures.same_number c.loop-i.invariant.known (rw c.in_ok-t.ensures at c.in_ok-made.ensures.known);
      later = l.1;
    }

pub returns-clause-made : goal.returns-clause-made
returns-clause-made c =
    let s = scene_of c.args.plan.now in
    let rs = c.args.runners.now.items in
    let past : length (runners_from s 0 rs) ≤ c.loop-i.i = omega (arith, c.loop-i-test.false, length-runners s 0 rs) in
    (no_turn s (world_of s c.args.objects.now.items rs) c.loop-i.i past c.loop-i.invariant.later, c.loop-i.invariant.same)
