use Rattle.cx_turn.proofs.Partings.{joins}
use Rattle.cx_turn.proofs.cuts.take_in.Goals as goal

pub join_seat-requires : goal.join_seat-requires
join_seat-requires g c = (
  c.requires.table.0,
  c.requires.table.1,
  c.requires.other.0,
  c.requires.table.2,
  joins g.S.Machine.meaning g.S.Machine.fits g.M.Meaning _ _ g.M.Meaning.any _ _ _ _ c.requires.place.0 c.requires.place.1 c.requires.other.1 c.requires.other.2 c.requires.pass,
)
