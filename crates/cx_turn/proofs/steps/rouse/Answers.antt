use Rattle.std.proofs.Common.{arith}
use Rattle.cx_turn.proofs.Keeps.{signalling}
use Rattle.cx_turn.proofs.steps.rouse.Goals as goal

pub swap-requires : goal.swap-requires
swap-requires g c = (c.requires.table.0, c.requires.table.1, signalling g.S.Machine.meaning g.S.Machine.fits g.M.Meaning _ _ _ _ c.args.word c.args.place.now.me.0 c.args.place.now.me.1 (λ _. 1) 1 0 c.requires.wake (λ n. omega arith))
