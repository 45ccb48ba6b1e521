use Rattle.std.proofs.Common.{◌∙◌, sym, refl}
use Rattle.cx_replay.proofs.Trying.{found, missing, look_is_shown, look_is_not, no_look}
use Rattle.cx_replay.proofs.objects.make_look.Goals as goal

pub returns-then-shows : goal.returns-then-shows
returns-then-shows c = look_is_shown c.args.objects.now c.args.o c.args.l c.in-Some.object.now (found c.args.objects.now c.args.o.0 c.in-Some.object.now c.in-Some.ensures.lookup.0 c.in-Some.ensures.lookup.1) (sym c.shows.ensures ∙ c.if-shows.true)

pub returns-else-shows : goal.returns-else-shows
returns-else-shows c = (look_is_not c.args.objects.now c.args.o c.args.l c.in-Some.object.now (found c.args.objects.now c.args.o.0 c.in-Some.object.now c.in-Some.ensures.lookup.0 c.in-Some.ensures.lookup.1) (sym c.shows.ensures ∙ c.if-shows.false), refl)

pub returns-in-None : goal.returns-in-None
returns-in-None c = (no_look c.args.objects.now c.args.o c.args.l (missing c.args.objects.now c.args.o.0 c.in-None.ensures.lookup.3), refl)
