use Rattle.std.proofs.Common.{ap, ◌∙◌, sym, min}
use Rattle.std.specs.Arc.{arc_value}
use Rattle.crossbeam_utils.specs.Padded.{padded_value}
use Rattle.cx_kinds.proofs.Seeing.{one, first_of, second_of, given_left, given_right, moved, may_split}
use Rattle.cx_kinds.proofs.seat.Seat.split_share.Goals as goal

pub split-token-requires-clause-token : goal.split-token-requires-clause-token
split-token-requires-clause-token g c = one g.X.M.Meaning g.X.Shared.knows g.X.Shared.number g.X.Shared.share g.X.Shared.start g.X.Shared.as_any g.met.X.Shared.kind g.met.X.Shared.right (padded_value (arc_value c.args.self.now.object)) c.deref-2.result.now (c.deref-2.ensures ∙ ap padded_value c.deref.ensures) c.args.self.now.token (c.requires.seen.view, c.requires.seen.seen)

pub split-token-requires-clause-room : goal.split-token-requires-clause-room
split-token-requires-clause-room g c = may_split g.X.M.Meaning g.X.Shared.knows g.X.Shared.number g.X.Shared.share g.X.Shared.start g.X.Shared.as_any g.met.X.Shared.kind g.met.X.Shared.right (padded_value (arc_value c.args.self.now.object)) c.deref-2.result.now (c.deref-2.ensures ∙ ap padded_value c.deref.ensures) c.args.self.now.token c.args.calls c.requires.room.may

pub give-requires-clause-from : goal.give-requires-clause-from
give-requires-clause-from g c = first_of g.X.M.Meaning g.X.Shared.knows g.X.Shared.number g.X.Shared.share g.X.Shared.start g.X.Shared.as_any g.met.X.Shared.kind g.met.X.Shared.right (padded_value (arc_value c.args.self.now.object)) c.deref-2.result.now (c.deref-2.ensures ∙ ap padded_value c.deref.ensures) c.deref-4.result.now (c.deref-4.ensures ∙ ap padded_value c.deref-3.ensures) c.args.self.now.token c.split-token.new.first c.args.calls c.split-token.ensures.first (c.requires.seen.view, c.requires.seen.seen)

pub give-requires-clause-to : goal.give-requires-clause-to
give-requires-clause-to g c = second_of g.X.M.Meaning g.X.Shared.knows g.X.Shared.number g.X.Shared.share g.X.Shared.start g.X.Shared.as_any g.met.X.Shared.kind g.met.X.Shared.right (padded_value (arc_value c.args.self.now.object)) c.deref-2.result.now (c.deref-2.ensures ∙ ap padded_value c.deref.ensures) c.deref-4.result.now (c.deref-4.ensures ∙ ap padded_value c.deref-3.ensures) c.args.self.now.token c.split-token.result c.args.calls c.split-token.ensures.second (c.requires.seen.view, c.requires.seen.seen)

pub returns-clause-split : goal.returns-clause-split
returns-clause-split g c = record {
  first = given_left g.X.M.Meaning g.X.Shared.knows g.X.Shared.number g.X.Shared.share g.X.Shared.start g.X.Shared.as_any g.met.X.Shared.kind g.met.X.Shared.right (padded_value (arc_value c.args.self.now.object)) c.deref-2.result.now (c.deref-2.ensures ∙ ap padded_value c.deref.ensures) c.deref-4.result.now (c.deref-4.ensures ∙ ap padded_value c.deref-3.ensures) c.args.self.now.token c.split-token.new.first c.give.new.from c.args.calls c.args.most c.min-share.result c.split-token.ensures.first (c.min-share.ensures ∙ ap (min c.args.most) c.share.ensures) c.give.ensures.from;
  second = λ V a.
      let r = given_right g.X.M.Meaning g.X.Shared.knows g.X.Shared.number g.X.Shared.share g.X.Shared.start g.X.Shared.as_any g.met.X.Shared.kind g.met.X.Shared.right (padded_value (arc_value c.args.self.now.object)) c.deref-2.result.now (c.deref-2.ensures ∙ ap padded_value c.deref.ensures) c.deref-4.result.now (c.deref-4.ensures ∙ ap padded_value c.deref-3.ensures) c.args.self.now.token c.split-token.new.first c.split-token.result c.give.new.to c.args.calls c.args.most c.min-share.result c.split-token.ensures.first c.split-token.ensures.second (c.min-share.ensures ∙ ap (min c.args.most) c.share.ensures) c.give.ensures.to V a in
      (r.0, moved g.X.M.Meaning g.X.Shared.knows g.X.Shared.number g.X.Shared.share g.X.Shared.start g.X.Shared.as_any g.met.X.Shared.kind g.met.X.Shared.right (padded_value (arc_value c.args.self.now.object)) (padded_value (arc_value c.in_ok-object.object)) (ap padded_value (sym c.in_ok-object.ensures)) c.give.new.to r.0 r.1, r.2);
}
