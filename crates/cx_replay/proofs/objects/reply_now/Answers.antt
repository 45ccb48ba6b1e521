use Rattle.std.proofs.Common.{◌∙◌, to_z-of_z}
use Rattle.cx_replay.proofs.Trying.{found, missing, reply_here, no_reply_here}
use Rattle.cx_replay.proofs.objects.reply_now.Goals as goal

pub returns-in-Some : goal.returns-in-Some
returns-in-Some c = c.reply_now.ensures ∙ rw (to_z-of_z c.ranges.a, to_z-of_z c.ranges.b) (reply_here c.args.objects.now c.args.o c.in-Some.object.now c.args.t.0 c.args.op c.args.a c.args.b (found c.args.objects.now c.args.o.0 c.in-Some.object.now c.in-Some.ensures.lookup.0 c.in-Some.ensures.lookup.1))

pub returns-in-None : goal.returns-in-None
returns-in-None c = no_reply_here c.args.objects.now c.args.o c.args.t.0 c.args.op c.args.a c.args.b (missing c.args.objects.now c.args.o.0 c.in-None.ensures.lookup.3)
