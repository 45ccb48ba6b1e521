use Rattle.std.proofs.Common.{ap, ◌∙◌, sym}
use Rattle.std.specs.Arc.{arc_value}
use Rattle.crossbeam_utils.specs.Padded.{padded_value}
use Rattle.cx_kinds.specs.AnyKind.{erase}
use Rattle.cx_kinds.proofs.Seeing.{seen, moved}
use Rattle.cx_kinds.proofs.seat.seated.Goals as goal

pub returns-clause-seen : goal.returns-clause-seen
returns-clause-seen g c = λ v h. moved g.X.M.Meaning g.X.Shared.knows g.X.Shared.number g.X.Shared.share g.X.Shared.start g.X.Shared.as_any g.met.X.Shared.kind g.met.X.Shared.right c.args.object (padded_value (arc_value c.in_ok-object.object)) (sym (ap padded_value c.in_ok-object.ensures.ok ∙ c.new.ensures)) c.args.token (erase g.X.Shared.as_any v) (seen g.X.M.Meaning g.X.Shared.knows g.X.Shared.number g.X.Shared.share g.X.Shared.start g.X.Shared.as_any g.met.X.Shared.kind g.met.X.Shared.right c.args.object c.args.token v h)
