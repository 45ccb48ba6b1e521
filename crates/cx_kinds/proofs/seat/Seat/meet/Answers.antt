use Rattle.std.proofs.Common.{ap, ◌∙◌, sym}
use Rattle.std.specs.Arc.{arc_value}
use Rattle.crossbeam_utils.specs.Padded.{padded_value}
use Rattle.cx_turn.specs.Views.{having_met}
use Rattle.cx_kinds.proofs.Seeing.{one, moved, met, stays}
use Rattle.cx_kinds.proofs.seat.Seat.meet.Goals as goal

pub meet-requires-clause-from : goal.meet-requires-clause-from
meet-requires-clause-from g c = one g.X.M.Meaning g.X.Shared.knows g.X.Shared.number g.X.Shared.share g.X.Shared.start g.X.Shared.as_any g.met.X.Shared.kind g.met.X.Shared.right (padded_value (arc_value c.args.self.now.object)) c.deref-2.result.now (c.deref-2.ensures ∙ ap padded_value c.deref.ensures) c.args.self.now.token (c.requires.seen.view, c.requires.seen.seen)

pub meet-requires-clause-to : goal.meet-requires-clause-to
meet-requires-clause-to g c = one g.X.M.Meaning g.X.Shared.knows g.X.Shared.number g.X.Shared.share g.X.Shared.start g.X.Shared.as_any g.met.X.Shared.kind g.met.X.Shared.right (padded_value (arc_value c.args.other.now.object)) c.deref-2.result.now (c.deref-2.ensures ∙ (ap padded_value c.deref.ensures ∙ ap padded_value (sym c.requires.same))) c.args.other.now.token (c.requires.other.view, c.requires.other.seen)

pub returns-clause-from : goal.returns-clause-from
returns-clause-from g c = record { stays = stays g.X.M.Meaning g.X.Shared.knows g.X.Shared.number g.X.Shared.share g.X.Shared.start g.X.Shared.as_any g.met.X.Shared.kind g.met.X.Shared.right (padded_value (arc_value c.args.self.now.object)) c.deref-2.result.now (c.deref-2.ensures ∙ ap padded_value c.deref.ensures) c.args.self.now.token c.meet.new.from c.meet.ensures.from }

pub returns-clause-to : goal.returns-clause-to
returns-clause-to g c = record { sees = λ V W a b. moved g.X.M.Meaning g.X.Shared.knows g.X.Shared.number g.X.Shared.share g.X.Shared.start g.X.Shared.as_any g.met.X.Shared.kind g.met.X.Shared.right (padded_value (arc_value c.args.self.now.object)) (padded_value (arc_value c.args.other.now.object)) (ap padded_value (sym c.requires.same)) c.meet.new.to (having_met W V) (met g.X.M.Meaning g.X.Shared.knows g.X.Shared.number g.X.Shared.share g.X.Shared.start g.X.Shared.as_any g.met.X.Shared.kind g.met.X.Shared.right (padded_value (arc_value c.args.self.now.object)) c.deref-2.result.now (c.deref-2.ensures ∙ ap padded_value c.deref.ensures) c.args.self.now.token c.args.other.now.token c.meet.new.to c.meet.ensures.to V W a (moved g.X.M.Meaning g.X.Shared.knows g.X.Shared.number g.X.Shared.share g.X.Shared.start g.X.Shared.as_any g.met.X.Shared.kind g.met.X.Shared.right (padded_value (arc_value c.args.other.now.object)) (padded_value (arc_value c.args.self.now.object)) (ap padded_value c.requires.same) c.args.other.now.token W b)) }
