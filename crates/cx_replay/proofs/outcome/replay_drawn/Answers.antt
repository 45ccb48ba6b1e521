use Rattle.std.proofs.Common.{rules, Some}
use Rattle.cx_scene.specs.Scene.{scene_of}
use Rattle.cx_replay.proofs.Counting.{room_then}
use Rattle.cx_replay.proofs.Drawing.{at_seed, starts_drawn, goes_on_drawn, ends_drawn}
use Rattle.cx_replay.proofs.StillKnown.{knows_all}
use Rattle.cx_replay.proofs.outcome.replay_drawn.Goals as goal

pub loop-count-init : goal.loop-count-init
loop-count-init c = record {
  made = starts_drawn (scene_of c.args.plan.now) c.in_ok-objects.objects.items c.in_ok-runners.runners.items c.args.seed c.generator-generator.result (rw c.deref.ensures.value at c.in_ok-objects.ensures) c.in_ok-runners.ensures c.generator-generator.ensures;
  known = knows_all (scene_of c.args.plan.now) c.in_ok-objects.objects.items c.in_ok-runners.runners.items c.len.result c.in_ok-known.known.items (search rules) c.in_ok-known.ensures;
}

pub loop-count-preserved : goal.loop-count-preserved
loop-count-preserved c =
    record {
      made = goes_on_drawn c.loop-count._count (scene_of c.args.plan.now) c.args.seed c.loop-count.generator c.turn_drawn.new.generator c.loop-count.objects.items c.turn_drawn.new.objects.items c.loop-count.runners.items c.turn_drawn.new.runners.items c.in_ok-made.made c.loop-count.invariant.made c.if-not-made.false c.in_ok-made.ensures.made;
      known = c.in_ok-made.ensures.known;
    }

pub returns-then-not-made-clause-outcome : goal.returns-then-not-made-clause-outcome
returns-then-not-made-clause-outcome c =
    ends_drawn c.loop-count._count (scene_of c.args.plan.now) c.args.seed c.loop-count.generator c.turn_drawn.new.generator c.loop-count.objects.items c.turn_drawn.new.objects.items c.loop-count.runners.items c.turn_drawn.new.runners.items c.in_ok-made.made c.in_ok-outcome.outcome c.loop-count.invariant.made c.if-not-made.true c.in_ok-made.ensures.made c.in_ok-outcome.ensures.outcome

pub turn_drawn-requires : goal.turn_drawn-requires
turn_drawn-requires c = record {
  room = room_then (scene_of c.args.plan.now) c.loop-count._count (Some c.args.seed) (at_seed (scene_of c.args.plan.now) c.loop-count.objects.items c.loop-count.runners.items c.loop-count.generator) c.requires c.loop-count.invariant.made;
  known = c.loop-count.invariant.known;
}
