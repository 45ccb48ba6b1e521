use Rattle.std.proofs.Common.{ap, ◌∙◌, sym}
use Rattle.std.specs.Arc.{arc_value}
use Rattle.crossbeam_utils.specs.Padded.{padded_value}
use Rattle.cx_kinds.proofs.Seeing.{one, moved, joined}
use Rattle.cx_kinds.proofs.seat.Seat.join.Goals as goal

pub join-requires-clause-token : goal.join-requires-clause-token
join-requires-clause-token g c = one g.X.M.Meaning g.X.Shared.knows g.X.Shared.number g.X.Shared.share g.X.Shared.start g.X.Shared.as_any g.met.X.Shared.kind g.met.X.Shared.right (padded_value (arc_value c.args.self.now.object)) c.deref-2.result.now (c.deref-2.ensures ∙ ap padded_value c.deref.ensures) c.args.self.now.token (c.requires.seen.view, c.requires.seen.seen)

pub join-requires-clause-other : goal.join-requires-clause-other
join-requires-clause-other g c = one g.X.M.Meaning g.X.Shared.knows g.X.Shared.number g.X.Shared.share g.X.Shared.start g.X.Shared.as_any g.met.X.Shared.kind g.met.X.Shared.right (padded_value (arc_value c.args.other.object)) c.deref-2.result.now (c.deref-2.ensures ∙ (ap padded_value c.deref.ensures ∙ ap padded_value (sym c.requires.same))) c.args.other.token (c.requires.other.view, c.requires.other.seen)

pub returns-clause-seen : goal.returns-clause-seen
returns-clause-seen g c = record { sees = λ V W a b. joined g.X.M.Meaning g.X.Shared.knows g.X.Shared.number g.X.Shared.share g.X.Shared.start g.X.Shared.as_any g.met.X.Shared.kind g.met.X.Shared.right (padded_value (arc_value c.args.self.now.object)) c.deref-2.result.now (c.deref-2.ensures ∙ ap padded_value c.deref.ensures) c.args.self.now.token c.args.other.token c.join.new.token c.join.ensures.seen V W a (moved g.X.M.Meaning g.X.Shared.knows g.X.Shared.number g.X.Shared.share g.X.Shared.start g.X.Shared.as_any g.met.X.Shared.kind g.met.X.Shared.right (padded_value (arc_value c.args.other.object)) (padded_value (arc_value c.args.self.now.object)) (ap padded_value c.requires.same) c.args.other.token W b) }
