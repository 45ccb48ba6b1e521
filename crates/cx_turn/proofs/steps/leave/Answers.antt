use Rattle.std.proofs.Common.{◌∙◌}
use Rattle.cx_turn.proofs.Keeps.{leaving}
use Rattle.cx_turn.proofs.steps.leave.Goals as goal

pub fetch_and-requires : goal.fetch_and-requires
fetch_and-requires g c =
    let away = c.exchange-away.ensures in
    (away.0 ∙ c.requires.table.0, c.requires.table.1, leaving g.S.Machine.meaning g.S.Machine.fits g.M.Meaning _ _ _ _ _ _ _ _ away.3 c.requires.held.0 c.requires.held.1 c.requires.held.2 c.requires.held.3 c.requires.leads c.requires.fits)
