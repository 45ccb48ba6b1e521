use Rattle.std.proofs.Common.{◌∙◌}
use Rattle.cx_replay.proofs.Trying.{found, missing}
use Rattle.cx_replay.proofs.Enabling.{change_enabled, change_missing}
use Rattle.cx_replay.proofs.objects.can_change.Goals as goal

pub returns-in-Some : goal.returns-in-Some
returns-in-Some c = c.enables.ensures ∙ change_enabled c.args.objects.now c.args.o c.args.e.now c.in-Some.object.now (found c.args.objects.now c.args.o.0 c.in-Some.object.now c.in-Some.ensures.lookup.0 c.in-Some.ensures.lookup.1)

pub returns-in-None : goal.returns-in-None
returns-in-None c = change_missing c.args.objects.now c.args.o c.args.e.now (missing c.args.objects.now c.args.o.0 c.in-None.ensures.lookup.3)
