use Rattle.cx_turn.proofs.Partings.{notes_off}
use Rattle.cx_turn.proofs.cuts.note_as.Goals as goal

pub split_seat-requires : goal.split_seat-requires
split_seat-requires g c = (c.requires.table.0, c.requires.table.1, notes_off g.S.Machine.meaning g.S.Machine.fits g.M.Meaning _ _ _ _ g.C.Moved.calls g.C.Moved.share g.C.Moved.id c.requires.live c.requires.calls c.requires.share c.requires.id)
