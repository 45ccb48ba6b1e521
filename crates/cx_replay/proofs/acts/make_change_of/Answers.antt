use Rattle.std.proofs.Common.{◌≡◌, ◌∙◌, sym, subst, map, to_z-of_z, Some, IfOk}
use Rattle.cx_replay.specs.Schedule.{reply_of}
use Rattle.cx_replay.specs.Views.{thing_of, of_objects, Makes}
use Rattle.cx_replay.proofs.Trying.{change_made}
use Rattle.cx_replay.proofs.acts.make_change_of.Goals as goal

pub returns-in-Some : goal.returns-in-Some
returns-in-Some c =
    let world = of_objects c.args.objects.now.items in
    let given : reply_of world c.args.t.0 c.args.o c.args.op c.args.a c.args.b c.args.wanted ≡ Some c.in-Some.reply = sym (rw (c.deref.ensures.value, to_z-of_z c.ranges.a, to_z-of_z c.ranges.b) at c.reply_of.ensures) ∙ c.in-Some.is in
    subst (λ v. IfOk c.make_change.result (λ item. Makes item v (map thing_of c.args.objects.now.items) (map thing_of c.make_change.new.objects.items))) (sym (change_made c.args.objects.now.items c.args.t.0 c.args.o c.args.op c.args.a c.args.b (reply_of world c.args.t.0 c.args.o c.args.op c.args.a c.args.b c.args.wanted) c.in-Some.reply given)) (rw (to_z-of_z c.ranges.a, to_z-of_z c.ranges.b) at c.make_change.ensures)
