use Rattle.std.proofs.Common.{refl, sym, ◌∙◌}
use Rattle.cx_replay.proofs.Trying.{found}
use Rattle.cx_replay.proofs.StillKnown.{changes_at}
use Rattle.cx_replay.proofs.knowing.note_at.Goals as goal

pub returns-in-Some : goal.returns-in-Some
returns-in-Some c = (sym c.are_on.ensures ∙ c.if-not-are_on.false, (refl, λ x h. changes_at c.args.objects.now c.args.o c.in-Some.object.now x (found c.args.objects.now c.args.o.0 c.in-Some.object.now c.in-Some.ensures.lookup.0 c.in-Some.ensures.lookup.1) h))
