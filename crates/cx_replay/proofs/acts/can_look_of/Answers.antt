use Rattle.std.proofs.Common.{◌∙◌, to_z-of_z, map}
use Rattle.cx_replay.specs.Views.{thing_of}
use Rattle.cx_replay.proofs.Enabling.{makes_some}
use Rattle.cx_replay.proofs.acts.can_look_of.Goals as goal

pub returns : goal.returns
returns c = c.is_some.ensures ∙ makes_some c.make_look_of-look.result _ (map thing_of c.args.objects.now) (map thing_of c.args.objects.now) (rw (to_z-of_z c.ranges.a, to_z-of_z c.ranges.b) at c.make_look_of-look.ensures)
