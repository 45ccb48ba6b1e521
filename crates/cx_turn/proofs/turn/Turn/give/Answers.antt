use Rattle.std.proofs.Common.{subst, None}
use Rattle.cx_turn.specs.Passes.{IsPassWith}
use Rattle.cx_turn.specs.Views.{note_right}
use Rattle.cx_turn.proofs.Known.{less_is, given_is}
use Rattle.cx_turn.proofs.turn.Turn.give.Goals as goal

pub take_in-requires-clause-note : goal.take_in-requires-clause-note
take_in-requires-clause-note g c = let p = c.requires.from in (note_right p.0 0 c.args.n None, c.note-part.ensures.note p.0 p.1)

pub returns-clause-from : goal.returns-clause-from
returns-clause-from g c v p = subst (IsPassWith g.S.Machine.meaning g.M.Meaning c.args.self.now _) (less_is v c.args.n) (c.note-part.ensures.rest v p)

pub returns-clause-to : goal.returns-clause-to
returns-clause-to g c v w p q = subst (IsPassWith g.S.Machine.meaning g.M.Meaning c.args.self.now _) (given_is w v c.args.n) (c.take_in.ensures w (note_right v 0 c.args.n None) q (c.note-part.ensures.note v p))
