use Rattle.std.proofs.Common.{◌∙◌}
use Rattle.cx_turn.proofs.Keeps.{changing_last}
use Rattle.cx_turn.proofs.steps.leave_as.Goals as goal

pub fetch_add-requires : goal.fetch_add-requires
fetch_add-requires g c =
    let away = c.exchange-away.ensures in let h = c.requires.held in (
      away.0 ∙ c.requires.table.0,
      c.requires.table.1,
      changing_last g.S.Machine.meaning g.S.Machine.fits g.M.Meaning _ _ g.met.S.Machine.lives_on _ _ _ _ _ _ g.E.Chosen.entry (g.S.Machine.meaning c.args.before.now.value) away.3 h.0 h.1 h.2 h.3 c.requires.leads c.requires.enabled c.requires.own c.requires.paid
          c.requires.shared c.requires.pool c.requires.id c.requires.fits,
    )
