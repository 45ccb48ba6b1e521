use Rattle.std.proofs.Common.{rules}
use Rattle.cx_replay.proofs.Trying.{change_is_made, change_is_refused, room_there}
use Rattle.cx_replay.proofs.objects.make_change.Goals as goal

pub change-requires : goal.change-requires
change-requires c = room_there c.args.objects.now.items c.args.o.0 c.index_mut-object.result.now (search rules) c.index_mut-object.ensures.value c.requires

pub returns-then-not-made : goal.returns-then-not-made
returns-then-not-made c =
    change_is_refused c.args.objects.now.items c.args.o c.args.e c.index_mut-object.result.now c.change.new.object c.in_ok-made.made (search rules) c.index_mut-object.ensures.value c.in_ok-made.ensures c.if-not-made.true

pub returns : goal.returns
returns c =
    change_is_made c.args.objects.now.items c.args.o c.args.e c.index_mut-object.result.now c.change.new.object c.in_ok-made.made (search rules) c.index_mut-object.ensures.value c.in_ok-made.ensures c.if-not-made.false
