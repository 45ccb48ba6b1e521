use Rattle.cx_turn.proofs.Keeps.{learns}
use Rattle.cx_turn.proofs.steps.learn.Goals as goal

pub load-requires : goal.load-requires
load-requires g c = (c.requires.table.0, c.requires.table.1, learns g.S.Machine.meaning g.S.Machine.fits g.M.Meaning _ _ _ _ c.args.place.now.me.0 c.args.place.now.me.1 c.requires.live)
