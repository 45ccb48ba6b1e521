use Rattle.cx_turn.proofs.Keeps.{changing}
use Rattle.cx_turn.proofs.steps.add_as.Goals as goal

pub fetch_add-requires : goal.fetch_add-requires
fetch_add-requires g c =
    let h = c.requires.held in (
      c.requires.table.0,
      c.requires.table.1,
      changing g.S.Machine.meaning g.S.Machine.fits g.M.Meaning _ _ g.met.S.Machine.lives_on _ c.args.place.now.me.0 g.E.Chosen.entry (g.S.Machine.meaning c.args.before.now.value) (g.S.Machine.meaning c.args.state.now) h.1 h.2 h.3 c.requires.leads c.requires.enabled
          c.requires.own c.requires.paid c.requires.shared c.requires.pool c.requires.id _ c.args.place.now.me.1,
    )
