use Rattle.cx_turn.proofs.Partings.{splits_off}
use Rattle.cx_turn.proofs.cuts.split_as.Goals as goal

pub split_seat-requires : goal.split_seat-requires
split_seat-requires g c =
    let f = c.requires.first in
    (c.requires.table.0, c.requires.table.1, splits_off g.S.Machine.meaning g.S.Machine.fits g.M.Meaning _ _ _ _ g.C.Moved.calls f.0 f.1 f.2 c.requires.seats c.requires.calls)
