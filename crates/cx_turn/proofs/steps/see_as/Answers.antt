use Rattle.cx_turn.proofs.Keeps.{looking}
use Rattle.cx_turn.proofs.steps.see_as.Goals as goal

pub load-requires : goal.load-requires
load-requires g c =
    let h = c.requires.held in (
      c.requires.table.0,
      c.requires.table.1,
      looking g.S.Machine.meaning g.S.Machine.fits g.M.Meaning _ _ _ _ c.args.place.now.me.0 c.args.place.now.me.1 (g.S.Machine.meaning c.args.state.now) g.L.Shown.look h.1 h.2 h.3 c.requires.leads c.requires.shown c.requires.own c.requires.stamp,
    )
