use Rattle.std.proofs.Common.{◌≡◌, ◌+◌, false, ap, ◌∙◌}
use Rattle.std.specs.Arc.{arc_value}
use Rattle.crossbeam_utils.specs.Padded.{padded_value}
use Rattle.cx_machine.specs.Meaning.{bit}
use Rattle.cx_items.specs.Memory.{nothing}
use Rattle.cx_kinds.specs.Holding.{changes_back}
use Rattle.cx_kinds.proofs.Seeing.{one, kept_up, where_left, unless_out}
use Rattle.cx_kinds.proofs.seat.Seat.give_up.Goals as goal

pub give_up-requires : goal.give_up-requires
give_up-requires g c = record { token = one g.X.M.Meaning g.X.Shared.knows g.X.Shared.number g.X.Shared.share g.X.Shared.start g.X.Shared.as_any g.met.X.Shared.kind g.met.X.Shared.right (padded_value (arc_value c.args.self.now.object)) c.deref-2.result.now (c.deref-2.ensures ∙ ap padded_value c.deref.ensures) c.args.self.now.token (c.requires.seen.view, c.requires.seen.seen) }

pub returns-clause-seen : goal.returns-clause-seen
returns-clause-seen g c = record { keeps = kept_up g.X.M.Meaning g.X.Shared.knows g.X.Shared.number g.X.Shared.share g.X.Shared.start g.X.Shared.as_any g.met.X.Shared.kind g.met.X.Shared.right (padded_value (arc_value c.args.self.now.object)) c.deref-2.result.now (c.deref-2.ensures ∙ ap padded_value c.deref.ensures) c.args.self.now.token c.give_up.new.token c.give_up.ensures.seen }

pub returns-clause-freed : goal.returns-clause-freed
returns-clause-freed g c = record { free = where_left g.X.M.Meaning g.X.Shared.knows g.X.Shared.number g.X.Shared.share g.X.Shared.start g.X.Shared.as_any g.met.X.Shared.kind g.met.X.Shared.right (padded_value (arc_value c.args.self.now.object)) c.deref-2.result.now (c.deref-2.ensures ∙ ap padded_value c.deref.ensures) c.args.self.now.token (changes_back (g.X.Shared.kept c.args.self.now.token)) (g.X.Shared.kept c.give_up.new.token ≡ nothing) c.give_up.ensures.freed }

pub returns-clause-free : goal.returns-clause-free
returns-clause-free g c = record { free = unless_out g.X.M.Meaning g.X.Shared.knows g.X.Shared.number g.X.Shared.share g.X.Shared.start g.X.Shared.as_any g.met.X.Shared.kind g.met.X.Shared.right (padded_value (arc_value c.args.self.now.object)) c.deref-2.result.now (c.deref-2.ensures ∙ ap padded_value c.deref.ensures) c.give_up.new.token (g.X.Shared.kept c.give_up.new.token ≡ nothing) c.give_up.ensures.free }

pub returns-clause-ended : goal.returns-clause-ended
returns-clause-ended g c = record { ended = where_left g.X.M.Meaning g.X.Shared.knows g.X.Shared.number g.X.Shared.share g.X.Shared.start g.X.Shared.as_any g.met.X.Shared.kind g.met.X.Shared.right (padded_value (arc_value c.args.self.now.object)) c.deref-2.result.now (c.deref-2.ensures ∙ ap padded_value c.deref.ensures) c.args.self.now.token (changes_back (g.X.Shared.kept c.args.self.now.token) + bit (g.X.Shared.begun c.args.self.now.token)) (g.X.Shared.begun c.give_up.new.token ≡ false) c.give_up.ensures.ended }

pub returns-clause-idle : goal.returns-clause-idle
returns-clause-idle g c = record { idle = unless_out g.X.M.Meaning g.X.Shared.knows g.X.Shared.number g.X.Shared.share g.X.Shared.start g.X.Shared.as_any g.met.X.Shared.kind g.met.X.Shared.right (padded_value (arc_value c.args.self.now.object)) c.deref-2.result.now (c.deref-2.ensures ∙ ap padded_value c.deref.ensures) c.give_up.new.token (g.X.Shared.begun c.give_up.new.token ≡ false) c.give_up.ensures.idle }
