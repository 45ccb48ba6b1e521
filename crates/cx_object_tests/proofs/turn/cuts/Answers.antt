use Rattle.std.proofs.Common.{◌≡◌, ◌≤◌, ◌+◌, ap, arith}
use Rattle.cx_object_tests.proofs.turn.cuts.Goals as goal

pub part-part-requires-clause-note : goal.part-part-requires-clause-note
part-part-requires-clause-note c = (_, c.note-note.ensures.note _ c.in_ok-door.ensures.pass)

pub part-part-requires-clause-share : goal.part-part-requires-clause-share
part-part-requires-clause-share c = let n = c.note-note.ensures.note _ c.in_ok-door.ensures.pass in omega (arith, n.counted.part)
