use Rattle.std.proofs.Common.{rules, None}
use Rattle.cx_scene.specs.Scene.{scene_of}
use Rattle.cx_replay.proofs.Outcomes.{at, starts, goes_on, ends}
use Rattle.cx_replay.proofs.Counting.{room_then}
use Rattle.cx_replay.proofs.StillKnown.{knows_all}
use Rattle.cx_replay.proofs.outcome.replay_first.Goals as goal

pub loop-count-init : goal.loop-count-init
loop-count-init c = record {
  made = starts (scene_of c.args.plan.now) c.in_ok-objects.objects.items c.in_ok-runners.runners.items (rw c.deref.ensures.value at c.in_ok-objects.ensures) c.in_ok-runners.ensures;
  known = knows_all (scene_of c.args.plan.now) c.in_ok-objects.objects.items c.in_ok-runners.runners.items c.len.result c.in_ok-known.known.items (search rules) c.in_ok-known.ensures;
}

pub loop-count-preserved : goal.loop-count-preserved
loop-count-preserved c =
    record {
      made = goes_on c.loop-count._count (scene_of c.args.plan.now) c.loop-count.objects.items c.turn.new.objects.items c.loop-count.runners.items c.turn.new.runners.items c.in_ok-made.made c.loop-count.invariant.made c.if-not-made.false c.in_ok-made.ensures.made;
      known = c.in_ok-made.ensures.known;
    }

pub returns-then-not-made-clause-outcome : goal.returns-then-not-made-clause-outcome
returns-then-not-made-clause-outcome c =
    ends c.loop-count._count (scene_of c.args.plan.now) c.loop-count.objects.items c.turn.new.objects.items c.loop-count.runners.items c.turn.new.runners.items c.in_ok-made.made c.in_ok-outcome.outcome c.loop-count.invariant.made c.if-not-made.true c.in_ok-made.ensures.made c.in_ok-outcome.ensures.outcome

pub turn-requires : goal.turn-requires
turn-requires c = record {
  room = room_then (scene_of c.args.plan.now) c.loop-count._count None (at (scene_of c.args.plan.now) c.loop-count.objects.items c.loop-count.runners.items) c.requires c.loop-count.invariant.made;
  known = c.loop-count.invariant.known;
}
