use Rattle.std.proofs.Common.{ap, ◌∙◌}
use Rattle.std.specs.Arc.{arc_value}
use Rattle.crossbeam_utils.specs.Padded.{padded_value}
use Rattle.cx_kinds.proofs.Seeing.{one, acted, refused, kept_on, kept_off, served_on, served_off}
use Rattle.cx_kinds.proofs.seat.Seat.act.Goals as goal

pub act-requires : goal.act-requires
act-requires g c = record { token = one g.X.M.Meaning g.X.Shared.knows g.X.Shared.number g.X.Shared.share g.X.Shared.start g.X.Shared.as_any g.met.X.Shared.kind g.met.X.Shared.right (padded_value (arc_value c.args.self.now.object)) c.deref-2.result.now (c.deref-2.ensures ∙ ap padded_value c.deref.ensures) c.args.self.now.token (c.requires.seen.view, c.requires.seen.seen) }

pub returns-in_err-done-clause-did : goal.returns-in_err-done-clause-did
returns-in_err-done-clause-did g c = record { does = refused g.X.M.Meaning g.X.Shared.knows g.X.Shared.number g.X.Shared.share g.X.Shared.start g.X.Shared.as_any g.met.X.Shared.kind g.met.X.Shared.right (padded_value (arc_value c.args.self.now.object)) c.deref-2.result.now (c.deref-2.ensures ∙ ap padded_value c.deref.ensures) c.args.self.now.token c.act.new.token c.args.o (g.X.Shared.number c.args.self.now.token) c.args.ask c.act.result c.from_residual.result c.in_err-done.was c.from_residual.ensures c.act.ensures.did }

pub returns-clause-did : goal.returns-clause-did
returns-clause-did g c = record { does = acted g.X.M.Meaning g.X.Shared.knows g.X.Shared.number g.X.Shared.share g.X.Shared.start g.X.Shared.as_any g.met.X.Shared.kind g.met.X.Shared.right (padded_value (arc_value c.args.self.now.object)) c.deref-2.result.now (c.deref-2.ensures ∙ ap padded_value c.deref.ensures) c.args.self.now.token c.act.new.token c.args.o c.number-by.result c.args.ask c.act.result c.in_ok-done.done c.item_of.result c.number-by.ensures c.in_ok-done.was c.act.ensures.did c.item_of.ensures }

pub returns-in_err-done-clause-kept : goal.returns-in_err-done-clause-kept
returns-in_err-done-clause-kept g c = kept_off c.args.ask c.act.result c.from_residual.result (g.X.Shared.kept c.args.self.now.token) (g.X.Shared.kept c.act.new.token) c.in_err-done.was c.from_residual.ensures c.act.ensures.kept

pub returns-clause-kept : goal.returns-clause-kept
returns-clause-kept g c = kept_on g.X.M.Meaning g.X.Shared.knows g.X.Shared.number g.X.Shared.share g.X.Shared.start g.X.Shared.as_any g.met.X.Shared.kind g.met.X.Shared.right (padded_value (arc_value c.args.self.now.object)) c.deref-2.result.now (c.deref-2.ensures ∙ ap padded_value c.deref.ensures) c.args.self.now.token c.act.new.token c.args.o c.number-by.result (g.X.Shared.number c.args.self.now.token) c.args.ask c.act.result c.in_ok-done.done c.item_of.result (g.X.Shared.kept c.args.self.now.token) (g.X.Shared.kept c.act.new.token) c.in_ok-done.was c.act.ensures.did c.item_of.ensures c.act.ensures.kept (one g.X.M.Meaning g.X.Shared.knows g.X.Shared.number g.X.Shared.share g.X.Shared.start g.X.Shared.as_any g.met.X.Shared.kind g.met.X.Shared.right (padded_value (arc_value c.args.self.now.object)) c.deref-2.result.now (c.deref-2.ensures ∙ ap padded_value c.deref.ensures) c.args.self.now.token (c.requires.seen.view, c.requires.seen.seen))

pub returns-in_err-done-clause-served : goal.returns-in_err-done-clause-served
returns-in_err-done-clause-served g c = record { served = served_off g.X.M.Meaning g.X.Shared.knows g.X.Shared.number g.X.Shared.share g.X.Shared.start g.X.Shared.as_any g.met.X.Shared.kind g.met.X.Shared.right (padded_value (arc_value c.args.self.now.object)) c.deref-2.result.now (c.deref-2.ensures ∙ ap padded_value c.deref.ensures) c.args.self.now.token c.act.result c.from_residual.result (λ share. g.X.Shared.serves (g.X.Shared.kept c.args.self.now.token) share c.args.ask) c.in_err-done.was c.act.ensures.served }

pub returns-clause-served : goal.returns-clause-served
returns-clause-served g c = record { served = λ V s left may. served_on g.X.M.Meaning g.X.Shared.knows g.X.Shared.number g.X.Shared.share g.X.Shared.start g.X.Shared.as_any g.met.X.Shared.kind g.met.X.Shared.right (padded_value (arc_value c.args.self.now.object)) c.deref-2.result.now (c.deref-2.ensures ∙ ap padded_value c.deref.ensures) c.args.self.now.token c.act.new.token c.args.o c.number-by.result (g.X.Shared.number c.args.self.now.token) c.args.ask c.act.result c.in_ok-done.done c.item_of.result c.in_ok-done.was c.act.ensures.did c.item_of.ensures V s }
