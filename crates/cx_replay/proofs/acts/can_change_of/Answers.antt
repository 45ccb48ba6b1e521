use Rattle.std.proofs.Common.{◌≡◌, ◌∙◌, sym, ap, to_z-of_z, Some, is_some}
use Rattle.cx_replay.specs.Schedule.{reply_of}
use Rattle.cx_replay.specs.Views.{of_objects}
use Rattle.cx_replay.proofs.Trying.{change_made}
use Rattle.cx_replay.proofs.acts.can_change_of.Goals as goal

pub returns-in-Some : goal.returns-in-Some
returns-in-Some c =
    let world = of_objects c.args.objects.now in
    let given : reply_of world c.args.t.0 c.args.o c.args.op c.args.a c.args.b c.args.wanted ≡ Some c.in-Some.reply = sym (rw (to_z-of_z c.ranges.a, to_z-of_z c.ranges.b) at c.reply_of.ensures) ∙ c.in-Some.is in
    (rw (to_z-of_z c.ranges.a, to_z-of_z c.ranges.b) at c.can_change.ensures) ∙ ap is_some (sym (change_made c.args.objects.now c.args.t.0 c.args.o c.args.op c.args.a c.args.b (reply_of world c.args.t.0 c.args.o c.args.op c.args.a c.args.b c.args.wanted) c.in-Some.reply given))
