use Rattle.std.proofs.Common.{◌≡◌, map, take}
use Rattle.cx_replay.specs.Schedule.{opening_thing}
use Rattle.cx_replay.specs.Views.{thing_of}
use Rattle.cx_replay.proofs.objects.open.Given as goal

abbrev pub invariant-loop-object : goal.invariant-loop-object
invariant-loop-object l = map thing_of l.opened.items ≡ map opening_thing (take l.object-index l.objects)
