use Rattle.std.proofs.Common.{ap, ◌∙◌}
use Rattle.std.specs.Arc.{arc_value}
use Rattle.crossbeam_utils.specs.Padded.{padded_value}
use Rattle.cx_kinds.proofs.Seeing.{one, completing}
use Rattle.cx_kinds.proofs.seat.Seat.is_completing.Goals as goal

pub is_completing-requires : goal.is_completing-requires
is_completing-requires g c = record { token = one g.X.M.Meaning g.X.Shared.knows g.X.Shared.number g.X.Shared.share g.X.Shared.start g.X.Shared.as_any g.met.X.Shared.kind g.met.X.Shared.right (padded_value (arc_value c.args.self.now.object)) c.deref-2.result.now (c.deref-2.ensures ∙ ap padded_value c.deref.ensures) c.args.self.now.token (c.requires.seen.view, c.requires.seen.seen) }

pub returns : goal.returns
returns g c = record { told = completing g.X.M.Meaning g.X.Shared.knows g.X.Shared.number g.X.Shared.share g.X.Shared.start g.X.Shared.as_any g.met.X.Shared.kind g.met.X.Shared.right (padded_value (arc_value c.args.self.now.object)) c.deref-2.result.now (c.deref-2.ensures ∙ ap padded_value c.deref.ensures) c.args.self.now.token c.is_completing.result c.is_completing.ensures }
