use Rattle.std.proofs.Common.{ap, ◌∙◌, sym}
use Rattle.std.specs.Arc.{arc_value}
use Rattle.crossbeam_utils.specs.Padded.{padded_value}
use Rattle.cx_kinds.proofs.Seeing.{one, left_of, right_of, moved, may_split}
use Rattle.cx_kinds.proofs.seat.Seat.split.Goals as goal

pub split-token-requires-clause-token : goal.split-token-requires-clause-token
split-token-requires-clause-token g c = one g.X.M.Meaning g.X.Shared.knows g.X.Shared.number g.X.Shared.share g.X.Shared.start g.X.Shared.as_any g.met.X.Shared.kind g.met.X.Shared.right (padded_value (arc_value c.args.self.now.object)) c.deref-2.result.now (c.deref-2.ensures ∙ ap padded_value c.deref.ensures) c.args.self.now.token (c.requires.seen.view, c.requires.seen.seen)

pub split-token-requires-clause-room : goal.split-token-requires-clause-room
split-token-requires-clause-room g c = may_split g.X.M.Meaning g.X.Shared.knows g.X.Shared.number g.X.Shared.share g.X.Shared.start g.X.Shared.as_any g.met.X.Shared.kind g.met.X.Shared.right (padded_value (arc_value c.args.self.now.object)) c.deref-2.result.now (c.deref-2.ensures ∙ ap padded_value c.deref.ensures) c.args.self.now.token c.args.calls c.requires.room.may

pub returns-clause-split : goal.returns-clause-split
returns-clause-split g c = record {
  first = left_of g.X.M.Meaning g.X.Shared.knows g.X.Shared.number g.X.Shared.share g.X.Shared.start g.X.Shared.as_any g.met.X.Shared.kind g.met.X.Shared.right (padded_value (arc_value c.args.self.now.object)) c.deref-2.result.now (c.deref-2.ensures ∙ ap padded_value c.deref.ensures) c.requires.whole c.args.self.now.token c.split-token.new.first c.args.calls c.args.most c.split-token.ensures.first;
  second = λ V a.
      let r = right_of g.X.M.Meaning g.X.Shared.knows g.X.Shared.number g.X.Shared.share g.X.Shared.start g.X.Shared.as_any g.met.X.Shared.kind g.met.X.Shared.right (padded_value (arc_value c.args.self.now.object)) c.deref-2.result.now (c.deref-2.ensures ∙ ap padded_value c.deref.ensures) c.requires.whole c.args.self.now.token c.split-token.result c.args.calls c.args.most c.split-token.ensures.second V a in
      (r.0, moved g.X.M.Meaning g.X.Shared.knows g.X.Shared.number g.X.Shared.share g.X.Shared.start g.X.Shared.as_any g.met.X.Shared.kind g.met.X.Shared.right (padded_value (arc_value c.args.self.now.object)) (padded_value (arc_value c.in_ok-object.object)) (ap padded_value (sym c.in_ok-object.ensures)) c.split-token.result r.0 r.1, r.2);
}
