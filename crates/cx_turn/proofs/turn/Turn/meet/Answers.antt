use Rattle.std.proofs.Common.{subst}
use Rattle.cx_turn.specs.Passes.{IsPassWith}
use Rattle.cx_turn.proofs.Known.{less_none, given_none}
use Rattle.cx_turn.proofs.turn.Turn.meet.Goals as goal

pub returns-clause-from : goal.returns-clause-from
returns-clause-from g c v p = subst (IsPassWith g.S.Machine.meaning g.M.Meaning c.args.self.now _) (less_none v) (c.give.ensures.from v p)

pub returns-clause-to : goal.returns-clause-to
returns-clause-to g c v w p q = subst (IsPassWith g.S.Machine.meaning g.M.Meaning c.args.self.now _) (given_none w v) (c.give.ensures.to v w p q)
