use Rattle.std.proofs.Common.{rules, arith, sym}
use Rattle.cx_scene.specs.Scene.{scene_of}
use Rattle.cx_replay.specs.Knowing.{Knows}
use Rattle.cx_replay.specs.Views.{world_of, AreEnabled}
use Rattle.cx_replay.proofs.Drawing.{are_kept, drawn_within, draws}
use Rattle.cx_replay.proofs.StillKnown.{known_length, known_then, knows_kept}
use Rattle.cx_replay.proofs.turning.turn_drawn.Goals as goal

pub put_enabled-requires : goal.put_enabled-requires
put_enabled-requires c = knows_kept (scene_of c.args.plan.now) c.args.objects.now.items c.deref.result.now c.args.runners.now.items c.deref-2.result.now c.args.known.now.items c.deref.ensures.value c.deref-2.ensures.value c.requires.known

pub step-requires : goal.step-requires
step-requires c =
    let s = scene_of c.args.plan.now in
    let are : AreEnabled s (world_of s c.args.objects.now.items c.args.runners.now.items) c.put_enabled.new.enabled.items = are_kept s c.args.objects.now.items c.deref.result.now c.args.runners.now.items c.deref-2.result.now c.put_enabled.new.enabled.items c.deref.ensures.value c.deref-2.ensures.value c.in_ok-put_enabled.ensures.enabled in
    record {
      number = drawn_within s c.args.objects.now.items c.args.runners.now.items c.put_enabled.new.enabled.items c.choose-i.result c.index-t.result.now are (search rules) c.index-t.ensures;
      room = c.requires.room;
    }

pub returns-clause-made : goal.returns-clause-made
returns-clause-made c =
    let s = scene_of c.args.plan.now in
    let w = world_of s c.args.objects.now.items c.args.runners.now.items in
    let are : AreEnabled s w c.put_enabled.new.enabled.items = are_kept s c.args.objects.now.items c.deref.result.now c.args.runners.now.items c.deref-2.result.now c.put_enabled.new.enabled.items c.deref.ensures.value c.deref-2.ensures.value c.in_ok-put_enabled.ensures.enabled in
    draws s w (world_of s c.step.new.objects.items c.step.new.runners.items) c.put_enabled.new.enabled.items c.args.generator.now c.choose-i.result c.choose-i.new.generator c.len-count.result c.index-t.result.now c.in_ok-made.made are (search rules) c.index-t.ensures (search rules) c.choose-i.ensures.place c.choose-i.ensures.state c.in_ok-made.ensures.made

pub returns-clause-known : goal.returns-clause-known
returns-clause-known c =
    let s = scene_of c.args.plan.now in
    let xs = c.args.objects.now.items in
    let rs = c.args.runners.now.items in
    let knows : Knows s (world_of s xs rs) c.put_enabled.new.known.items = knows_kept s c.deref.result.now xs c.deref-2.result.now rs c.put_enabled.new.known.items (sym c.deref.ensures.value) (sym c.deref-2.ensures.value) c.in_ok-put_enabled.ensures.known in
    known_then s xs c.step.new.objects.items rs c.step.new.runners.items c.index-t.result.now.0 c.put_enabled.new.known.items c.in_ok-made.made c.in_ok-made.ensures.made c.in_ok-made.ensures.same_number knows

pub index_mut-requires : goal.index_mut-requires
index_mut-requires c =
    let s = scene_of c.args.plan.now in
    let xs = c.args.objects.now.items in
    let rs = c.args.runners.now.items in
    let are : AreEnabled s (world_of s xs rs) c.put_enabled.new.enabled.items = are_kept s xs c.deref.result.now rs c.deref-2.result.now c.put_enabled.new.enabled.items c.deref.ensures.value c.deref-2.ensures.value c.in_ok-put_enabled.ensures.enabled in
    let knows : Knows s (world_of s xs rs) c.put_enabled.new.known.items = knows_kept s c.deref.result.now xs c.deref-2.result.now rs c.put_enabled.new.known.items (sym c.deref.ensures.value) (sym c.deref-2.ensures.value) c.in_ok-put_enabled.ensures.known in
    omega (arith, known_length s xs rs c.put_enabled.new.known.items knows, drawn_within s xs rs c.put_enabled.new.enabled.items c.choose-i.result c.index-t.result.now are (search rules) c.index-t.ensures)
